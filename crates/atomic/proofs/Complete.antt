-- The history leaves nothing out and makes nothing up: each accepted move tells of itself what the history notes of
-- it.
--     leaves_nothing_out                  the theorem
-- Assumes nothing.
use mathlib.Core.Path.{◌≡◌, refl, sym, ap, ◌∙◌}
use mathlib.Core.Bool.{false, cond}
use mathlib.Core.List.{List, [], ◌∷◌, map}
use Prim.Native.Nat.{ℕ, suc, ◌+◌, ◌≤◌, ◌<◌}
use native.Mathlib.Decide.{ℕ_discrete}
use native.Mathlib.Omega.{arith}
use lib.Dec.{eqb}
use lib.ListN.{length}
use borrow.Author.Tests.{eq-eqb, ne_eqb, lt-ltb, le-ltb}
use Rattle.theory.specs.Place.{Record}
use Rattle.register.specs.Shape.{Shape}
use Rattle.register.specs.Area.{writer_phase, readers, memory}
use Rattle.register.specs.Steps.{Move, step}
use Rattle.register.specs.Calls.{answered, stepped}
use Rattle.atomic.specs.Seen.{Accepted, none, then, got, event, events}
use Rattle.theory.specs.History.{Event, Read, Write, History, closed, changed_at, stepped_on, the_read, the_write}
use Rattle.theory.specs.History.{noted, all_noted, nothing_yet}
use Rattle.theory.specs.Lists.{Each, also}
use Rattle.atomic.specs.Demands.{beginning, told}
use Rattle.atomic.specs.Complete.{Moment, trail, moves_of, steps, ends_read, leaves_phase, ends_write}
use Rattle.atomic.specs.Complete.{begun_at, since, handed, told_of, read_told, publication_told, End}
use Rattle.atomic.specs.Complete.{end_told, publication_of, end_of, ended_only, LeavesNothingOut}
use Rattle.theory.proofs.Tests.{each_follows}
use Rattle.theory.proofs.Placed.{between}
use Rattle.atomic.proofs.Dates.{Ends, all_ended, one_open}
use Rattle.register.specs.Conditions.{InRange}
use Rattle.atomic.proofs.Called.{opened}
use Rattle.atomic.proofs.Moments.{Tells, tells, a_read_begin, a_write_begin, another_step, a_look}
use Rattle.atomic.proofs.Moments.{a_publication, a_read_end, a_write_end}
use Rattle.atomic.proofs.Made.{made_well}
use Rattle.atomic.proofs.Promise.{Good, moves_all_noted, next_good, run_begins_good, run_ends_good}

-- ---- the end of a write

closed_published : (t k : ℕ) (writes : List Write)
    → map publication_of (closed t k writes) ≡ map publication_of writes
closed_published t k [] = refl
closed_published t k (w ∷ writes) = refl

-- in phase 7 the newest write has not ended yet
closed_ended : {all_moves now phase k : ℕ} {writes : List Write} → now < all_moves → phase ≡ 7
    → Ends all_moves now phase writes
    → map end_of (ended_only all_moves (closed now k writes))
    ≡ record { move = now; steps = k } ∷ map end_of (ended_only all_moves writes)
closed_ended l e (all_ended d past) = absurd (d e)
closed_ended {all_moves = all_moves} {now = now} l e (one_open {w = w} e' still past) =
    rw (lt-ltb now all_moves l, le-ltb w.end all_moves (omega arith))

ends_by : {now phase : ℕ} {writes : List Write} (all_moves : ℕ) → now ≡ all_moves
    → Ends all_moves now phase writes
    → Each (λ w. w.end ≤ all_moves) writes
ends_by all_moves e (all_ended d past) = each_follows (λ w b. omega arith) past
ends_by all_moves e (one_open {w = w} e' still past) =
    also {x = w} (omega arith) (each_follows (λ w b. omega arith) past)

-- ---- what the history knows is what the moves tell

module _ (n all_moves : ℕ) where
  record Recalls (past : List Moment) (h : History) : Type 0 where
    moves : h.moves ≡ length past
    began : (q : ℕ) → h.began q ≡ begun_at q past
    steps_made : (q : ℕ) → h.steps q ≡ since q (steps q) past
    looks_made : h.looks ≡ since n (leaves_phase 1) past
    given : h.given ≡ handed past
    reads : h.reads ≡ told_of ends_read read_told past
    published_ones : map publication_of h.writes ≡ told_of (leaves_phase 6) publication_told past
    ended_ones : map end_of (ended_only all_moves h.writes) ≡ told_of ends_write end_told past

  nothing_recalled : Recalls [] nothing_yet
  nothing_recalled =
      record {
        moves = refl;
        began = λ q. refl;
        steps_made = λ q. refl;
        looks_made = refl;
        given = refl;
        reads = refl;
        published_ones = refl;
        ended_ones = refl;
      }

  module _ {past : List Moment} {h : History} (v : Recalls past h) (a : List ℕ) where
    abbrev now_made : Move → List Moment
    now_made x = record { area = a; move = x } ∷ past

    -- a step of process p, as the history notes every one
    module _ (p : ℕ) where
      steps_noted : (q : ℕ) → changed_at h.steps p (suc (h.steps p)) q
          ≡ cond (eqb q p) (suc (since q (steps q) past)) (since q (steps q) past)
      steps_noted q = go (ℕ_discrete q p)
        where
          go : Dec (q ≡ p) → changed_at h.steps p (suc (h.steps p)) q
              ≡ cond (eqb q p) (suc (since q (steps q) past)) (since q (steps q) past)
          go (yes e) = rw (eq-eqb q p e) (ap suc (ap h.steps (sym e) ∙ v.steps_made q))
          go (no d) = rw (ne_eqb q p d) (v.steps_made q)

      step_recalled : (looks : ℕ) (reads : List Read) (writes : List Write)
          → looks ≡ cond (leaves_phase 1 a (step p)) (suc h.looks) h.looks
          → reads ≡ cond (ends_read a (step p)) (read_told a (step p) past ∷ h.reads) h.reads
          → map publication_of writes ≡ told_of (leaves_phase 6) publication_told (now_made (step p))
          → map end_of (ended_only all_moves writes) ≡ told_of ends_write end_told (now_made (step p))
          → Recalls (now_made (step p)) (stepped_on all_moves h p looks reads writes)
      step_recalled looks reads writes el er ep ee =
          record {
            moves = ap suc v.moves;
            began = v.began;
            steps_made = steps_noted;
            looks_made = el ∙ (λ i. cond (leaves_phase 1 a (step p)) (suc (v.looks_made i)) (v.looks_made i));
            given = v.given;
            reads = er ∙ (λ i. cond (ends_read a (step p)) (read_told a (step p) past ∷ v.reads i) (v.reads i));
            published_ones = ep;
            ended_ones = ee;
          }

    recalled : {x : Move} {e : Event} → readers a ≡ n → h.moves < all_moves
        → Ends all_moves h.moves (memory a writer_phase) h.writes → Tells a x e
        → Recalls (now_made x) (noted all_moves h e.who e.what)
    recalled same l still (a_read_begin r in_n) =
        record {
          moves = ap suc v.moves;
          began = λ q i. cond (eqb q r) (v.moves i) (v.began q i);
          steps_made = λ q i. cond (eqb q r) 0 (v.steps_made q i);
          looks_made = rw (ne_eqb n r (λ z. omega arith)) v.looks_made;
          given = v.given;
          reads = v.reads;
          published_ones = v.published_ones;
          ended_ones = v.ended_ones;
        }
    recalled same l still (a_write_begin u) =
        record {
          moves = ap suc v.moves;
          began = λ q i. cond (eqb q (readers a)) (v.moves i) (v.began q i);
          steps_made = λ q i. cond (eqb q (readers a)) 0 (v.steps_made q i);
          looks_made = rw (eq-eqb n (readers a) (sym same));
          given = refl;
          reads = v.reads;
          published_ones = v.published_ones;
          ended_ones = v.ended_ones;
        }
    recalled same l still (another_step p k t) =
        step_recalled p h.looks h.reads h.writes (rw t.looking) (rw t.reads_end)
        (rw t.publishing v.published_ones) (rw t.writes_end v.ended_ones)
    recalled same l still (a_look p w t) =
        step_recalled p (suc h.looks) h.reads h.writes (rw t.looking) (rw t.reads_end)
        (rw t.publishing v.published_ones) (rw t.writes_end v.ended_ones)
    recalled same l still (a_publication p w t) =
        step_recalled p h.looks h.reads (the_write all_moves h p false ∷ h.writes) (rw t.looking)
        (rw t.reads_end) (rw t.publishing (λ i. its_publication i ∷ v.published_ones i))
        (rw (t.writes_end, le-ltb all_moves all_moves (omega arith)) v.ended_ones)
      where
        its_publication : publication_of (the_write all_moves h p false) ≡ publication_told a (step p) past
        its_publication =
            (λ i. record { begin = v.began p i; move = v.moves i; looks = v.looks_made i; gives = v.given i })
            ∙ rw (w, same)
    recalled same l still (a_read_end p t) =
        step_recalled p h.looks (the_read all_moves h p (got p (stepped a p)) ∷ h.reads) h.writes
        (rw t.looking) (rw t.reads_end (λ i. its_read i ∷ h.reads))
        (rw t.publishing v.published_ones) (rw t.writes_end v.ended_ones)
      where
        its_read : the_read all_moves h p (got p (stepped a p)) ≡ read_told a (step p) past
        its_read = λ i. record {
          reader = p;
          begin = v.began p i;
          end = v.moves i;
          steps = suc (v.steps_made p i);
          gets = got p (stepped a p);
        }
    recalled same l still (a_write_end p w last t) =
        step_recalled p h.looks h.reads (closed h.moves (suc (h.steps p)) h.writes) (rw t.looking)
        (rw t.reads_end)
        (rw t.publishing (closed_published h.moves (suc (h.steps p)) h.writes ∙ v.published_ones))
        (rw t.writes_end (closed_ended l last still ∙ (λ i. its_end i ∷ v.ended_ones i)))
      where
        its_end : ◌≡◌ {A = End} (record { move = h.moves; steps = suc (h.steps p) }) (end_told a (step p) past)
        its_end = (λ i. record { move = v.moves i; steps = suc (v.steps_made p i) }) ∙ rw w

  -- over a whole run
  module _ (k : Shape) (first : Record) (range : InRange k) (same : k.n ≡ n) where
    all_recalled : (a : List ℕ) (l : List Move) (past : List Moment) (h : History) → Accepted a l
        → h.moves + length l ≡ all_moves → Good k first all_moves a h → Recalls past h
        → Recalls (trail past a l) (all_noted all_moves h (events a l))
    all_recalled a [] past h none e g v = v
    all_recalled a (x ∷ l) past h (then z rest) e g v =
        let told_now =
        recalled v a (ap (λ j. j.n) g.its_shape ∙ same) (omega arith) g.dated.ends
        (tells a x (opened a x z)) in
        all_recalled (answered a x).area l (record { area = a; move = x } ∷ past)
        (noted all_moves h (event a x).who (event a x).what) rest
        (omega (arith, told_now.moves, v.moves))
        (next_good k first range g x z (omega arith)) told_now

pub leaves_nothing_out : LeavesNothingOut
leaves_nothing_out u =
    record {
      reads = whole.reads;
      published = whole.published_ones;
      ended = whole.ended_ones;
      latest = latest (run_ends_good u).dated.ends;
      between = between (run_ends_good u).told.sound.writes;
      now_began = whole.began;
      now_steps = whole.steps_made;
      now_looks = whole.looks_made;
      now_given = whole.given;
    }
  where
    t : ℕ
    t = length u.moves

    whole : Recalls u.shape.n t (moves_of u) (told u)
    whole =
        let w = made_well u.shape u.first u.slice u.made_well in
        all_recalled u.shape.n t u.shape u.first w.range refl (beginning u) u.moves [] nothing_yet
        u.accepted (omega arith) (run_begins_good u) (nothing_recalled u.shape.n t)

    latest : {k : ℕ} → Ends t (told u).moves k (told u).writes → Each (λ w. w.end ≤ t) (told u).writes
    latest = ends_by t (omega (arith, moves_all_noted t (beginning u) u.moves nothing_yet))
