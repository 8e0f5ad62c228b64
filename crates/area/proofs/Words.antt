-- The words of an area as its places. The word read at i, where `Layout` says that it stands, is what the memory
-- holds: `slot_field_is`, `contents_is`, `desk_field_is`, `writer_field_is`, `write_record_is`. The word set there is
-- a store: `contents_set`, `read_record_set`, `write_record_set`. Assumes nothing.
use mathlib.Core.Path.{◌≡◌, sym, ap, ◌∙◌}
use mathlib.Core.List.{List, [], ◌∷◌}
use Prim.Native.Nat.{ℕ, ◌+◌, ◌<◌}
use native.Mathlib.Nat.{add-zero}
use native.Mathlib.Omega.{arith}
use lib.ListN.{get_or, set}
use Rattle.theory.specs.Place.{Place, ◌≔◌}
use Rattle.theory.specs.Table.{Table, offset, address, view, store}
use Rattle.register.specs.Shape.{Shape, table}
use Rattle.register.specs.Area.{slot_field, contents, desk_field, read_record, writer_field, write_record}
use Rattle.theory.proofs.Tables.{Has, view_here}
use Rattle.register.proofs.Body.{body_slot, body_contents, body_desk, body_writer, body_write_record, slot_offset}
use Rattle.register.proofs.Body.{desk_offset, writer_offset}
use Rattle.area.specs.Words.{word_at, slot_word, desk_word, writer_word}

-- ---- any place of any table

-- the first word of a field that stands behind fields of one word each
pub first_word : (t : Table) (g f r : ℕ) → offset t g f ≡ f
    → word_at t g r f ≡ address t (record { part = g; field = f; row = r; column = 0 })
first_word t g f r e = ap (word_at t g r) (sym e ∙ sym (add-zero (offset t g f)))

-- the word read at a place's address is what the memory holds there
word_is : (t : Table) (a : List ℕ) {i : ℕ} (p : Place) → Has t p → i ≡ address t p
    → get_or a i 0 ≡ view t a p
word_is t a p h e = ap (λ j. get_or a j 0) e ∙ sym (view_here t a p h)

-- a word set at a place's address is a store to that place
set_is : (t : Table) (a : List ℕ) {i : ℕ} (p : Place) (v : ℕ) → i ≡ address t p
    → set a i v ≡ store t a (p ≔ v ∷ [])
set_is t a p v e = ap (λ j. set a j v) e

-- ---- the places of an area by their names: the word read at i

module _ (k : Shape) (a : List ℕ) {i : ℕ} where
  pub slot_field_is : (f s : ℕ) → f < 4 → s < k.n + 2 → i ≡ slot_word k s f
      → get_or a i 0 ≡ view (table k) a (slot_field f s)
  slot_field_is f s h l e =
      word_is (table k) a (slot_field f s) (body_slot k f s h l).has
      (e ∙ first_word (table k) 1 f s (slot_offset k f (omega arith)))

  pub contents_is : (s j : ℕ) → s < k.n + 2 → j < k.c → i ≡ slot_word k s (4 + j)
      → get_or a i 0 ≡ view (table k) a (contents s j)
  contents_is s j h l = word_is (table k) a (contents s j) (body_contents k s j h l).has

  pub desk_field_is : (f r : ℕ) → f < 6 → r < k.n → i ≡ desk_word k r f
      → get_or a i 0 ≡ view (table k) a (desk_field f r)
  desk_field_is f r h l e =
      word_is (table k) a (desk_field f r) (body_desk k f r h l).has
      (e ∙ first_word (table k) 2 f r (desk_offset k f (omega arith)))

  pub writer_field_is : (f : ℕ) → f < 7 → i ≡ writer_word k f
      → get_or a i 0 ≡ view (table k) a (writer_field f)
  writer_field_is f h e =
      word_is (table k) a (writer_field f) (body_writer k f h).has
      (e ∙ first_word (table k) 3 f 0 (writer_offset k f (omega arith)))

  pub write_record_is : (j : ℕ) → j < k.c → i ≡ writer_word k (7 + j)
      → get_or a i 0 ≡ view (table k) a (write_record j)
  write_record_is j h = word_is (table k) a (write_record j) (body_write_record k j h).has

-- ---- the same places: a word set at i

module _ (k : Shape) (a : List ℕ) {i : ℕ} (v : ℕ) where
  pub contents_set : (s j : ℕ) → i ≡ slot_word k s (4 + j)
      → set a i v ≡ store (table k) a (contents s j ≔ v ∷ [])
  contents_set s j = set_is (table k) a (contents s j) v

  pub read_record_set : (r j : ℕ) → i ≡ desk_word k r (6 + j)
      → set a i v ≡ store (table k) a (read_record r j ≔ v ∷ [])
  read_record_set r j = set_is (table k) a (read_record r j) v

  pub write_record_set : (j : ℕ) → i ≡ writer_word k (7 + j)
      → set a i v ≡ store (table k) a (write_record j ≔ v ∷ [])
  write_record_set j = set_is (table k) a (write_record j) v
