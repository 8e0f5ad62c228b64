-- What one more move leaves alone in a history. It holds of any register.
--     Beside, beside                      one move more; begins and steps of all but the process that moves
--     OfReader, WritesKept, writes_kept   the deeds of a reader: they leave all that is told of writes
--     OfWriter, reads_kept, needs_none    the deeds of the writer: they leave the finished reads, and need nothing
--     reading_noted                       a read under way is placed as it was
-- Assumes nothing.
use mathlib.Core.Path.{◌≡◌, refl}
use mathlib.Core.Logic.{◌≢◌}
use mathlib.Core.Bool.{false}
use Prim.Native.Nat.{ℕ, suc, ◌≤◌}
use Rattle.theory.specs.Place.{Record}
use Rattle.theory.specs.History.{Got, Deed, read_began, write_began, went_on, looked, published, read_ended}
use Rattle.theory.specs.History.{write_ended, History, the_write, noted}
use Rattle.theory.proofs.Tests.{miss}
use Rattle.theory.proofs.Placed.{Where, where_published, where_closed, Needs}
use Rattle.theory.proofs.Copying.{Reading}

-- a deed of a reader, and what is known of it: while the reader goes on, and of what it got once it ends
pub data OfReader (going : Type 0) (ending : Got → Type 0) : Deed → Type 0 where
  begins_read : going → OfReader going ending read_began
  goes_on : {k : ℕ} → going → OfReader going ending (went_on k)
  ends_read : {g : Got} → ending g → OfReader going ending (read_ended g)

-- a deed of the writer, and what is known of it: while it neither publishes nor ends, where it publishes, where it ends
pub data OfWriter (going publishing ending : Type 0) : Deed → Type 0 where
  begins_write : {v : Record} → going → OfWriter going publishing ending (write_began v)
  looks_on : going → OfWriter going publishing ending looked
  writes_on : {k : ℕ} → going → OfWriter going publishing ending (went_on k)
  publishes_it : publishing → OfWriter going publishing ending (published false)
  ends_write : ending → OfWriter going publishing ending write_ended

-- one move later, and the begins and steps of all but process p as they were
pub record Beside (h h' : History) (p : ℕ) : Type 0 where
  pub moves : h'.moves ≡ suc h.moves
  pub began : (q : ℕ) → q ≢ p → h'.began q ≡ h.began q
  pub steps : (q : ℕ) → q ≢ p → h'.steps q ≡ h.steps q

pub record WritesKept (h h' : History) : Type 0 where
  pub looks : h'.looks ≡ h.looks
  pub given : h'.given ≡ h.given
  pub writes : h'.writes ≡ h.writes

module _ (total : ℕ) (h : History) (p : ℕ) where
  pub beside : (d : Deed) → Beside h (noted total h p d) p
  beside read_began = record { moves = refl; began = λ q d. miss q p d _ _; steps = λ q d. miss q p d _ _ }
  beside (write_began v) = record { moves = refl; began = λ q d. miss q p d _ _; steps = λ q d. miss q p d _ _ }
  beside (went_on k) = record { moves = refl; began = λ q d. refl; steps = λ q d. miss q p d _ _ }
  beside looked = record { moves = refl; began = λ q d. refl; steps = λ q d. miss q p d _ _ }
  beside (published ended) = record { moves = refl; began = λ q d. refl; steps = λ q d. miss q p d _ _ }
  beside (read_ended g) = record { moves = refl; began = λ q d. refl; steps = λ q d. miss q p d _ _ }
  beside write_ended = record { moves = refl; began = λ q d. refl; steps = λ q d. miss q p d _ _ }

  pub writes_kept : {going : Type 0} {ending : Got → Type 0} {d : Deed} → OfReader going ending d
      → WritesKept h (noted total h p d)
  writes_kept (begins_read x) = record { looks = refl; given = refl; writes = refl }
  writes_kept (goes_on x) = record { looks = refl; given = refl; writes = refl }
  writes_kept (ends_read x) = record { looks = refl; given = refl; writes = refl }

  module _ {going publishing ending : Type 0} where
    pub reads_kept : {d : Deed} → OfWriter going publishing ending d → (noted total h p d).reads ≡ h.reads
    reads_kept (begins_write x) = refl
    reads_kept (looks_on x) = refl
    reads_kept (writes_on x) = refl
    reads_kept (publishes_it x) = refl
    reads_kept (ends_write x) = refl

    -- they need nothing
    pub needs_none : {d : Deed} (first : Record) → OfWriter going publishing ending d → Needs first h p d
    needs_none first (begins_write x) = tt
    needs_none first (looks_on x) = tt
    needs_none first (writes_on x) = tt
    needs_none first (publishes_it x) = tt
    needs_none first (ends_write x) = tt

    -- a read under way is placed as it was
    where_noted : {first : Record} {begin end number : ℕ} {v : Record} {d : Deed} → begin ≤ h.moves
        → OfWriter going publishing ending d → Where first begin end v number h.writes
        → Where first begin end v number (noted total h p d).writes
    where_noted l (begins_write x) a = a
    where_noted l (looks_on x) a = a
    where_noted l (writes_on x) a = a
    where_noted l (publishes_it x) a = where_published (the_write total h p false) l a
    where_noted l (ends_write x) a = where_closed h.moves (suc (h.steps p)) a

    pub reading_noted : {sizing : ℕ} {first : Record} {begin now phase len pos number size its_number : ℕ}
        {mine words : ℕ → ℕ} {d : Deed} → begin ≤ h.moves → OfWriter going publishing ending d
        → Reading sizing first begin now h.writes phase len pos number mine size its_number words
        → Reading sizing first begin now (noted total h p d).writes phase len pos number mine size its_number words
    reading_noted l x v = record { bound = λ y. where_noted l x (v.bound y); copied = v.copied }
