-- Each name of document 01 stands at the address that it says. Assumes nothing.
use mathlib.Core.Path.{◌≡◌, ap, ◌∙◌}
use mathlib.Core.List.{List, [], ◌∷◌, map}
use Prim.Native.Nat.{ℕ, ◌+◌, ◌<◌}
use native.Mathlib.Omega.{arith}
use lib.ListN.{get_or}
use Rattle.theory.specs.Place.{Place}
use Rattle.theory.specs.Table.{address}
use Rattle.register.specs.Area.{current, slot_field, contents, desk_field, read_record, writer_field}
use Rattle.register.specs.Area.{write_record, r_start, r_end, size, slot_write_number, phase, last, pos, len}
use Rattle.register.specs.Area.{desk_write_number, finished, writer_phase, last_slot, in_hand, writer_pos}
use Rattle.register.specs.Area.{writer_len, old_word, writes_ended, shape_of, memory}
use Rattle.register.specs.Shape.{Shape, table}
use Rattle.register.specs.Conditions.{word}
use Rattle.register.specs.Stands.{slot, desk, writer, WordsStand}
use Rattle.theory.proofs.Tables.{Has, view_here}
use Rattle.register.proofs.Body.{body_current, body_slot, body_contents, body_desk, body_read_record}
use Rattle.register.proofs.Body.{body_writer, body_write_record, slot_offset, desk_offset, writer_offset}

module _ (a : List ℕ) where
  abbrev k : Shape
  k = shape_of a

  at : (p : Place) (i : ℕ) → Has (table k) p → address (table k) p ≡ i → memory a p ≡ word a i
  at p i h e = view_here (table k) a p h ∙ ap (λ j. get_or a j 0) e

  slot_at : (f s : ℕ) → f < 4 → s < k.n + 2 → memory a (slot_field f s) ≡ slot a s f
  slot_at f s h l = at (slot_field f s) _ (body_slot k f s h l).has (omega (arith, slot_offset k f (omega arith)))

  desk_at : (f r : ℕ) → f < 6 → r < k.n → memory a (desk_field f r) ≡ desk a r f
  desk_at f r h l = at (desk_field f r) _ (body_desk k f r h l).has (omega (arith, desk_offset k f (omega arith)))

  writer_at : (f : ℕ) → f < 7 → memory a (writer_field f) ≡ writer a f
  writer_at f h = at (writer_field f) _ (body_writer k f h).has (omega (arith, writer_offset k f (omega arith)))

  -- the rows of the three parts, word by word
  slots_at : (s : ℕ) → s < k.n + 2
      → map (memory a) (r_start s ∷ r_end s ∷ size s ∷ slot_write_number s ∷ [])
      ≡ slot a s 0 ∷ slot a s 1 ∷ slot a s 2 ∷ slot a s 3 ∷ []
  slots_at s l = λ i.
      w 0 (omega arith) i ∷ w 1 (omega arith) i ∷ w 2 (omega arith) i ∷ w 3 (omega arith) i ∷ []
    where
      w : (f : ℕ) → f < 4 → memory a (slot_field f s) ≡ slot a s f
      w f h = slot_at f s h l

  desks_at : (r : ℕ) → r < k.n
      → map (memory a) (phase r ∷ last r ∷ pos r ∷ len r ∷ desk_write_number r ∷ finished r ∷ [])
      ≡ desk a r 0 ∷ desk a r 1 ∷ desk a r 2 ∷ desk a r 3 ∷ desk a r 4 ∷ desk a r 5 ∷ []
  desks_at r l = λ i.
      w 0 (omega arith) i ∷ w 1 (omega arith) i ∷ w 2 (omega arith) i ∷ w 3 (omega arith) i
      ∷ w 4 (omega arith) i ∷ w 5 (omega arith) i ∷ []
    where
      w : (f : ℕ) → f < 6 → memory a (desk_field f r) ≡ desk a r f
      w f h = desk_at f r h l

  writer_desk_at : map (memory a)
      (writer_phase ∷ last_slot ∷ in_hand ∷ writer_pos ∷ writer_len ∷ old_word ∷ writes_ended ∷ [])
      ≡ writer a 0 ∷ writer a 1 ∷ writer a 2 ∷ writer a 3 ∷ writer a 4 ∷ writer a 5 ∷ writer a 6 ∷ []
  writer_desk_at = λ i.
      writer_at 0 (omega arith) i ∷ writer_at 1 (omega arith) i ∷ writer_at 2 (omega arith) i
      ∷ writer_at 3 (omega arith) i ∷ writer_at 4 (omega arith) i ∷ writer_at 5 (omega arith) i
      ∷ writer_at 6 (omega arith) i ∷ []

pub words_stand : WordsStand
words_stand a =
    let k = shape_of a in
    record {
      the_current = at a current 7 (body_current k).has (omega arith);
      slots = slots_at a;
      slot_contents = λ s i h l. at a (contents s i) _ (body_contents k s i h l).has (omega arith);
      desks = desks_at a;
      desk_records = λ r i h l. at a (read_record r i) _ (body_read_record k r i h l).has (omega arith);
      writer_desk = writer_desk_at a;
      writer_record = λ i h. at a (write_record i) _ (body_write_record k i h).has (omega arith);
    }
