-- The places of an area: each name of document 01 is a place that the area has, and no step stores to words 0 to 6.
-- Assumes nothing.
use mathlib.Core.Path.{◌≡◌, refl}
use mathlib.Core.List.{List, [], ◌∷◌, ◌++◌}
use Prim.Native.Nat.{ℕ, suc, ◌+◌, ◌≤◌, ◌<◌}
use native.Mathlib.Omega.{arith}
use lib.ListN.{length}
use Rattle.theory.specs.Place.{Record, Place, Store, copied}
use Rattle.theory.specs.Table.{words, offset, address, Untouched}
use Rattle.register.specs.Shape.{Shape, table}
use Rattle.register.specs.Area.{header, current, slot_field, contents, desk_field, read_record, writer_field}
use Rattle.register.specs.Area.{write_record}
use Rattle.theory.specs.Lists.{Each, none, also}
use Rattle.theory.proofs.Tests.{each_follows}
use Rattle.theory.proofs.Tables.{Has, AllHas, single_words, single_offset}

module _ (k : Shape) where
  -- a place of the area behind its head, which is words 0 to 6
  pub record InBody (p : Place) : Type 0 where
    pub has : Has (table k) p
    pub behind : 7 ≤ address (table k) p

  abbrev pub AllInBody : List Store → Type 0
  AllInBody = Each (λ s. InBody s.place)

  pub all_has : {l : List Store} → AllInBody l → AllHas (table k) l
  all_has = each_follows (λ s o. o.has)

  pub head_untouched : {l : List Store} (i : ℕ) → i < 7 → AllInBody l → Untouched (table k) i l
  head_untouched i h = each_follows (λ s o e. omega (arith, o.behind))

  pub body_append : (k l : List Store) → AllInBody k → AllInBody l → AllInBody (k ++ l)
  body_append [] l none w = w
  body_append (s ∷ k) l (also h v) w = also h (body_append k l v w)

  -- fields of one word each: the header's, and those of a slot, of a reader's desk and of the writer's desk before its
  -- field of many words
  header_one : (f : ℕ) → f < 8 → words (table k) 0 f ≡ 1
  header_one = single_words (table k) 0 8 _ refl

  slot_one : (f : ℕ) → f < 4 → words (table k) 1 f ≡ 1
  slot_one = single_words (table k) 1 4 _ refl

  desk_one : (f : ℕ) → f < 6 → words (table k) 2 f ≡ 1
  desk_one = single_words (table k) 2 6 _ refl

  writer_one : (f : ℕ) → f < 7 → words (table k) 3 f ≡ 1
  writer_one = single_words (table k) 3 7 _ refl

  -- and where they stand
  pub slot_offset : (f : ℕ) → f ≤ 4 → offset (table k) 1 f ≡ f
  slot_offset = single_offset (table k) 1 4 _ refl

  pub desk_offset : (f : ℕ) → f ≤ 6 → offset (table k) 2 f ≡ f
  desk_offset = single_offset (table k) 2 6 _ refl

  pub writer_offset : (f : ℕ) → f ≤ 7 → offset (table k) 3 f ≡ f
  writer_offset = single_offset (table k) 3 7 _ refl

  pub has_header : (i : ℕ) → i < 8 → Has (table k) (header i)
  has_header i l = record { part = omega arith; row = omega arith; column = omega (arith, header_one i l) }

  pub body_current : InBody current
  body_current = record { has = has_header 7 (omega arith); behind = omega arith }

  pub body_slot : (f s : ℕ) → f < 4 → s < k.n + 2 → InBody (slot_field f s)
  body_slot f s l h =
      record {
        has = record { part = omega arith; row = h; column = omega (arith, slot_one f l) };
        behind = omega arith;
      }

  pub body_contents : (s i : ℕ) → s < k.n + 2 → i < k.c → InBody (contents s i)
  body_contents s i h l = record { has = record { part = omega arith; row = h; column = l }; behind = omega arith }

  pub body_desk : (f r : ℕ) → f < 6 → r < k.n → InBody (desk_field f r)
  body_desk f r l h =
      record {
        has = record { part = omega arith; row = h; column = omega (arith, desk_one f l) };
        behind = omega arith;
      }

  pub body_read_record : (r i : ℕ) → r < k.n → i < k.c → InBody (read_record r i)
  body_read_record r i h l = record { has = record { part = omega arith; row = h; column = l }; behind = omega arith }

  pub body_writer : (f : ℕ) → f < 7 → InBody (writer_field f)
  body_writer f l =
      record {
        has = record { part = omega arith; row = omega arith; column = omega (arith, writer_one f l) };
        behind = omega arith;
      }

  pub body_write_record : (i : ℕ) → i < k.c → InBody (write_record i)
  body_write_record i l =
      record { has = record { part = omega arith; row = omega arith; column = l }; behind = omega arith }

  -- a record that is copied into a row
  pub body_copied : (at : ℕ → Place) → ((i : ℕ) → i < k.c → InBody (at i)) → (v : Record) (i : ℕ)
      → i + length v ≤ k.c → AllInBody (copied at i v)
  body_copied at h [] i l = none
  body_copied at h (x ∷ v) i l = also (h i (omega arith)) (body_copied at h v (suc i) (omega arith))
