-- The area that a run starts with is made of words of the right number. Assumes nothing.
use mathlib.Core.Path.{◌≡◌, refl, ap, ◌∙◌}
use mathlib.Core.Bool.{true}
use mathlib.Core.List.{List}
use Prim.Native.Nat.{ℕ, ◌+◌, ◌*◌, ◌≤◌}
use native.Mathlib.Omega.{arith}
use lib.ListN.{length, take}
use lib.Seq.{length-take-le}
use Rattle.theory.specs.Table.{total}
use Rattle.register.specs.Shape.{table}
use Rattle.register.specs.Calls.{made}
use Rattle.register.specs.Conditions.{InRange}
use Rattle.atomic.proofs.Made.{made_well, accepted_when}
use Rattle.answer.specs.Carried.{whole}
use Rattle.answer.specs.Refusals.{Returned}
use Rattle.runfile.specs.Bytes.{words_at}
use Rattle.runfile.specs.RunFile.{capacity, values_at, starting_length, starting_record, is_run_file}
use Rattle.runfile.specs.Code.{header_of}
use Rattle.runfile.specs.declared.types.Header.{Header}
use Rattle.runfile.specs.Conditions.{FileFacts}
use Rattle.runfile.proofs.Files.{file_facts}
use Rattle.playing.specs.Play.{run_shape, begun, first_state}
use Rattle.playing.proofs.Values.{words_length}

module _ (b : List ℕ) (e : is_run_file b ≡ true) where
  facts : FileFacts b
  facts = file_facts b e

  -- the starting record is not too long
  pub short : length (starting_record b) ≤ capacity b
  short = omega (arith, words_length (starting_length b) b (values_at b), facts.short)

  -- N and C are in range
  pub in_range : InRange (run_shape b)
  in_range = grind (arith, facts)

  -- words of the right number are taken, and filled as a fresh area
  pub well : (a : List ℕ) → length a ≡ total (table (run_shape b))
      → (made (run_shape b) (starting_record b) a).number ≡ 0
  well a exact =
      accepted_when (run_shape b) (starting_record b) a refl in_range (exact ∙ omega arith) short

  pub started : (a : List ℕ) → length a ≡ total (table (run_shape b))
      → (made (run_shape b) (starting_record b) a).area ≡ (first_state b).area
  started a exact = (made_well (run_shape b) (starting_record b) a (well a exact)).area

  pub few_starting : (h : Header) → h ≡ header_of b → h.starting ≤ 32
  few_starting h head = omega (arith, ap (λ z. z.starting) head, facts.short, facts.few_words)

  -- the values that fill the first words of 32 are the starting record
  pub taken : (l : List ℕ) (h : Header) → 32 ≤ length l → h ≡ header_of b
      → words_at (length (take h.starting l)) b (values_at b + 8 * 0) ≡ starting_record b
  taken l h room head =
      let few = few_starting h head in
      let all = length-take-le h.starting l (omega arith) ∙ ap (λ z. z.starting) head in
      let first : values_at b + 8 * 0 ≡ values_at b = omega arith in
      rw (all, first)

  -- on words of the right number it is the first state
  pub begun_first : (a a' : List ℕ) (r : Returned) → length a ≡ total (table (run_shape b))
      → whole r a' ≡ begun b a → a' ≡ (first_state b).area
  unfolding begun
  begun_first a a' r exact called = ap (λ y. y.area) called ∙ rw e (started a exact)
