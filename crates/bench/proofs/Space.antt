-- Words enough for the area of any run, and the first of them. Assumes nothing.
use mathlib.Core.Path.{◌≡◌, sym, ap, ◌∙◌}
use mathlib.Core.Bool.{true}
use mathlib.Core.List.{List}
use Prim.Native.Nat.{ℕ, ◌+◌, ◌*◌, ◌≤◌}
use native.Mathlib.Nat.{mul-le-mul, le_trans}
use native.Mathlib.Omega.{arith}
use lib.ListN.{length, take}
use lib.Seq.{length-take-le}
use Rattle.theory.specs.Table.{width, total}
use Rattle.register.specs.Shape.{shape, table}
use Rattle.area.specs.Words.{layout_of}
use Rattle.area.specs.declared.Layout.{Layout}
use Rattle.runfile.specs.RunFile.{readers, capacity, is_run_file}
use Rattle.runfile.specs.Code.{header_of}
use Rattle.runfile.specs.declared.types.Header.{Header}
use Rattle.runfile.proofs.Files.{file_facts}
use Rattle.playing.specs.Play.{run_shape}
use Rattle.bench.specs.Sizes.{area_words}

-- the largest area of a run: N = 8 and C = 32
room_for_all : (b : List ℕ) → readers b ≤ 8 → capacity b ≤ 32 → total (table (run_shape b)) ≤ area_words
room_for_all b few short =
    let t = table (run_shape b) in
    let more : readers b + 2 ≤ 10 = omega arith in
    let slot : width t 1 ≤ 36 = omega arith in
    let desk : width t 2 ≤ 38 = omega arith in
    let slots : (readers b + 2) * width t 1 ≤ 10 * 36 = mul-le-mul more slot in
    let desks : readers b * width t 2 ≤ 8 * 38 = mul-le-mul few desk in
    omega arith

module _ (b : List ℕ) (e : is_run_file b ≡ true) {h : Header} (head : h ≡ header_of b) where
  pub in_layout : (h.n ≤ 64) × (h.c ≤ 256)
  in_layout =
      let facts = file_facts b e in
      (omega (arith, ap (λ z. z.n) head, facts.few_readers), omega (arith, ap (λ z. z.c) head, facts.few_words))

  module _ {p : Layout} (laid : p ≡ layout_of (shape 1 h.n h.c)) (space : List ℕ)
      (enough : area_words ≤ length space) where
    its_total : p.total ≡ total (table (run_shape b))
    its_total = ap (λ z. z.total) laid ∙ ap (λ z. total (table (shape 1 z.n z.c))) head

    pub inside : p.total ≤ length space
    inside =
        let facts = file_facts b e in
        rw its_total (le_trans (room_for_all b facts.few_readers facts.few_words) enough)

    pub front_exact : p.total ≡ length (take p.total space)
    front_exact = sym (length-take-le p.total space inside)

    pub front_total : length (take p.total space) ≡ total (table (run_shape b))
    front_total = sym front_exact ∙ its_total
