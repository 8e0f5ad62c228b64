-- The writer's desk stays whole as the writer goes from phase to phase. Assumes nothing.
use mathlib.Core.Path.{◌≡◌, refl}
use mathlib.Core.Logic.{◌≢◌}
use Prim.Native.Nat.{ℕ, suc, ◌+◌, ◌≤◌, ◌<◌}
use native.Mathlib.Omega.{arith}
use Rattle.register.specs.Shape.{Shape}
use Rattle.register.specs.Area.{most_writes}
use Rattle.register.specs.Conditions.{WordWhole, WriterWhole}

module _ {shape : Shape} {phase last hand pos len old ended : ℕ}
    (v : WriterWhole shape phase last hand pos len old ended) where
  -- it goes on, from its slot to its end
  pub further : (k pos' old' : ℕ) → phase ≢ 0 → 2 ≤ k → k ≤ 7 → pos' ≤ len
      → (k ≡ 2 → pos' < len) → WordWhole shape old'
      → WriterWhole shape k last hand pos' len old' ended
  further k pos' old' busy lo hi part copying before =
      record {
        phases = hi;
        last_one = v.last_one;
        hand_one = v.hand_one;
        part = part;
        words = v.words;
        before = before;
        copying = copying;
        unmoved = λ e. absurd (omega arith);
        room = λ d. v.room busy;
      }

  -- it looks on
  pub scanning_on : (hand' : ℕ) → phase ≡ 1 → hand' < shape.n + 2
      → WriterWhole shape phase last hand' pos len old ended
  scanning_on hand' e l =
      record {
        phases = v.phases;
        last_one = v.last_one;
        hand_one = l;
        part = v.part;
        words = v.words;
        before = v.before;
        copying = v.copying;
        unmoved = v.unmoved;
        room = v.room;
      }

  -- it begins
  pub beginning : (len' : ℕ) → len' ≤ shape.c → ended < most_writes
      → WriterWhole shape 1 last 0 0 len' old ended
  beginning len' l more =
      record {
        phases = omega arith;
        last_one = v.last_one;
        hand_one = omega arith;
        part = omega arith;
        words = l;
        before = v.before;
        copying = λ e. absurd (omega arith);
        unmoved = λ e. refl;
        room = λ d. more;
      }

  -- it ends
  pub ending : WriterWhole shape 0 hand hand pos len old (suc ended)
  ending =
      record {
        phases = omega arith;
        last_one = v.hand_one;
        hand_one = v.hand_one;
        part = v.part;
        words = v.words;
        before = v.before;
        copying = λ e. absurd (omega arith);
        unmoved = λ e. absurd (omega arith);
        room = λ d. absurd (d refl);
      }
