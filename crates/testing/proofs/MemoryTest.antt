-- Test 2 by its parts in turn: the first that fails, or the writer's desk that is left. Assumes nothing.
use mathlib.Core.Bool.{true, false, and-true}
use mathlib.Core.Path.{◌≡◌, sym}
use Prim.Native.Nat.{◌+◌}
use Rattle.theory.specs.Place.{Memory}
use Rattle.theory.specs.Lists.{all, every}
use Rattle.register.specs.Area.{memory_tests, current, word_sound, slot_sound, desk_sound, writer_sound}
use Rattle.register.specs.Shape.{Shape}

module _ (k : Shape) (m : Memory) where
  -- the current word fails
  pub word_fails : word_sound k (m current) ≡ false → false ≡ all (memory_tests k m)
  word_fails e = rw e

  module _ (word : word_sound k (m current) ≡ true) where
    -- the current word passes, and a slot fails
    pub slots_fail : every (k.n + 2) 0 (slot_sound k m) ≡ false → false ≡ all (memory_tests k m)
    slots_fail e = rw (word, e)

    module _ (slots : every (k.n + 2) 0 (slot_sound k m) ≡ true) where
      -- the slots pass too, and a desk fails
      pub desks_fail : every k.n 0 (desk_sound k m) ≡ false → false ≡ all (memory_tests k m)
      desks_fail e = rw (word, slots, e)

      -- all these pass, and the writer's desk is left
      pub writer_left : every k.n 0 (desk_sound k m) ≡ true → writer_sound k m ≡ all (memory_tests k m)
      writer_left desks = rw (word, slots, desks) (sym (and-true (writer_sound k m)))
