-- A reader copies a record out of a slot, the writer copies one in: what each has at each phase. It holds of any
-- register: `sizing` is the phase of a reader's size step, behind which it copies; `told` is the phase of a writer that
-- has published.
--     Reading                             what a reader has of its slot
--     reading_later                       time goes on
--     not_yet, from_sizing                before the size step nothing is asked
--     bound_to_newest                     a reader that binds the current slot
--     copy_starts, no_words               the size step
--     copy_goes_on, copy_ends             a copying step, the last one
--     Writing                             what the writer has of its record and of the slot in hand
--     nothing_written, write_begins       at first, and when a write begins
--     slot_found, slot_passed             writer step 1
--     fill_goes_on, fill_ends             writer step 2
--     words_there                         from phase 3 on
--     published_whole, publishes_it, ends_it   the record that is published is the one given; writer steps 6 and 7
-- Assumes nothing.
use mathlib.Core.Path.{◌≡◌, refl, sym, ap, subst, ◌∙◌}
use mathlib.Core.Logic.{◌≢◌}
use mathlib.Core.List.{List, []}
use Prim.Native.Nat.{ℕ, suc, ◌≤◌, ◌<◌}
use native.Mathlib.Decide.{ℕ_discrete}
use native.Mathlib.Omega.{arith}
use lib.ListN.{length}
use borrow.Author.Tests.{eq-eqb, ne_eqb}
use Rattle.theory.specs.Place.{Record}
use Rattle.theory.specs.History.{Write, History, changed_at}
use Rattle.theory.proofs.Places.{row, row_same}
use Rattle.theory.proofs.Placed.{Where, Sound, where_later, newest, newest_where, apart_later}

-- ---- one word more

one_more : {pos : ℕ} {mine words : ℕ → ℕ} → ((j : ℕ) → j < pos → mine j ≡ words j)
    → (j : ℕ) → j < suc pos → changed_at mine pos (words pos) j ≡ words j
one_more {pos} {mine} {words} had j l = go (ℕ_discrete j pos)
  where
    go : Dec (j ≡ pos) → changed_at mine pos (words pos) j ≡ words j
    go (yes e) = rw (eq-eqb j pos e) (ap words (sym e))
    go (no d) = rw (ne_eqb j pos d) (had j (omega arith))

-- ---- a reader that began at `begin`: its phase, len, pos, write number and words; size, write number and words of
-- its slot

pub record Reading (sizing : ℕ) (first : Record) (begin now : ℕ) (writes : List Write) (phase len pos number : ℕ)
    (mine : ℕ → ℕ) (size its_number : ℕ) (words : ℕ → ℕ) : Type 0 where
  -- from its size step on the slot holds, whole, a write that it may show
  pub bound : sizing ≤ phase → Where first begin now (row size words) its_number writes
  -- and while it copies it has the slot's words up to pos
  pub copied : phase ≡ suc sizing → (len ≡ size) × (number ≡ its_number) × (pos < len)
      × ((j : ℕ) → j < pos → mine j ≡ words j)

module _ {sizing : ℕ} {first : Record} where
  -- the clock goes on
  pub reading_later : {begin now phase len pos number size its_number : ℕ} {writes : List Write}
      {mine words : ℕ → ℕ}
      → Reading sizing first begin now writes phase len pos number mine size its_number words
      → Reading sizing first begin (suc now) writes phase len pos number mine size its_number words
  reading_later {now = now} v =
      record { bound = λ x. where_later (suc now) (omega arith) (v.bound x); copied = v.copied }

  -- before its size step nothing is asked
  pub not_yet : {begin now len pos number size its_number : ℕ} {writes : List Write} {mine words : ℕ → ℕ}
      (phase : ℕ) → phase < sizing
      → Reading sizing first begin now writes phase len pos number mine size its_number words
  not_yet phase l = record { bound = λ x. absurd (omega arith); copied = λ x. absurd (omega arith) }

  -- so that what is asked may be shown from its size step on
  pub from_sizing : {begin now phase len pos number size its_number : ℕ} {writes : List Write}
      {mine words : ℕ → ℕ}
      → (sizing ≤ phase → Reading sizing first begin now writes phase len pos number mine size its_number words)
      → Reading sizing first begin now writes phase len pos number mine size its_number words
  from_sizing v = record { bound = λ x. (v x).bound x; copied = λ x. (v (omega arith)).copied x }

  -- bound to the newest record
  pub bound_to_newest : (h : History) (begin len pos number size its_number : ℕ) (mine words : ℕ → ℕ)
      → row size words ≡ newest first h.writes → its_number ≡ length h.writes → Sound first h
      → Reading sizing first begin (suc h.moves) h.writes sizing len pos number mine size its_number words
  bound_to_newest h begin len pos number size its_number mine words e k s =
      let apart = apart_later h.moves (suc h.moves) h.writes (omega arith) s.writes in
      record {
        bound = λ x. newest_where first begin (suc h.moves) (row size words) its_number h.writes apart e k;
        copied = λ x. absurd (omega arith);
      }

  module _ {begin now phase len pos number size its_number : ℕ} {writes : List Write} {mine words : ℕ → ℕ}
      (v : Reading sizing first begin now writes phase len pos number mine size its_number words) where
    -- the size step: the copy starts, or there is none to make
    pub copy_starts : phase ≡ sizing → size ≢ 0
        → Reading sizing first begin (suc now) writes (suc sizing) size 0 its_number mine size its_number words
    copy_starts e d =
        record {
          bound = λ x. where_later (suc now) (omega arith) (v.bound (omega arith));
          copied = λ x. (refl, refl, omega arith, λ j l. absurd (omega arith));
        }

    pub no_words : phase ≡ sizing → size ≡ 0 → Where first begin now [] its_number writes
    no_words e z =
        subst (λ l. Where first begin now l its_number writes) (ap (λ k. row k words) z) (v.bound (omega arith))

    -- a copying step, and the last one
    pub copy_goes_on : phase ≡ suc sizing → suc pos ≢ len
        → Reading sizing first begin (suc now) writes phase len (suc pos) number
        (λ j. changed_at mine pos (words pos) j) size its_number words
    copy_goes_on e d =
        record {
          bound = λ x. where_later (suc now) (omega arith) (v.bound x);
          copied = λ x.
              let (a, b, l, had) = v.copied x in
              (a, b, omega arith, one_more had);
        }

    pub copy_ends : phase ≡ suc sizing → suc pos ≡ len
        → Where first begin now (row len (λ j. changed_at mine pos (words pos) j)) number writes
    copy_ends e x =
        let (a, b, l, had) = v.copied e in
        let same : row len (λ j. changed_at mine pos (words pos) j) ≡ row size words =
        row_same len (λ j. changed_at mine pos (words pos) j) words (λ j k. one_more had j (omega arith))
        ∙ ap (λ k. row k words) a in
        rw (same, b) (v.bound (omega arith))

-- ---- the writer, the record it was given and the number k of published writes: its phase, len, pos, writes ended
-- and words;
-- size, write number and words of the slot in hand

pub record Writing (told : ℕ) (given : Record) (k phase len pos ended : ℕ) (mine : ℕ → ℕ) (size number : ℕ)
    (words : ℕ → ℕ) : Type 0 where
  pub counted : phase ≢ told → ended ≡ k
  pub published : phase ≡ told → suc ended ≡ k
  pub has : 1 ≤ phase → (len ≡ length given) × (row len mine ≡ given)
  pub unmoved : phase ≡ 1 → pos ≡ 0
  pub filling : phase ≡ 2 → (pos < len) × ((j : ℕ) → j < pos → words j ≡ mine j)
  pub filled : 3 ≤ phase → phase < told → (j : ℕ) → j < len → words j ≡ mine j
  pub sized : 4 ≤ phase → phase < told → (size ≡ len) × (number ≡ suc ended)

module _ {told : ℕ} {given : Record} {k phase len pos ended : ℕ} {mine : ℕ → ℕ} {size number : ℕ}
    {words : ℕ → ℕ}
    (v : Writing told given k phase len pos ended mine size number words) (high : 4 < told) where
  -- what no later phase asks any more
  pub write_begins : {size' number' : ℕ} {words' : ℕ → ℕ} (u : Record) (mine' : ℕ → ℕ)
      → phase ≡ 0 → row (length u) mine' ≡ u
      → Writing told u k 1 (length u) 0 ended mine' size' number' words'
  write_begins u mine' e d =
      record {
        counted = λ y. v.counted (λ z. omega arith);
        published = λ y. absurd (omega arith);
        has = λ y. (refl, d);
        unmoved = λ y. refl;
        filling = λ y. absurd (omega arith);
        filled = λ y z. absurd (omega arith);
        sized = λ y z. absurd (omega arith);
      }

  -- a slot is found: for words, or for none
  pub slot_found : phase ≡ 1 → len ≢ 0 → Writing told given k 2 len pos ended mine size number words
  slot_found e d =
      record {
        counted = λ y. v.counted (λ z. omega arith);
        published = λ y. absurd (omega arith);
        has = λ y. v.has (omega arith);
        unmoved = λ y. absurd (omega arith);
        filling = λ y. (omega (arith, v.unmoved e), λ j l. absurd (omega (arith, v.unmoved e)));
        filled = λ y z. absurd (omega arith);
        sized = λ y z. absurd (omega arith);
      }

  -- from phase 3 on, once all words are there
  pub words_there : {size' number' : ℕ} (phase' pos' : ℕ) (words' : ℕ → ℕ) → 1 ≤ phase
      → phase < told → 3 ≤ phase' → phase' < told
      → ((j : ℕ) → j < len → words' j ≡ mine j)
      → (4 ≤ phase' → (size' ≡ len) × (number' ≡ suc ended))
      → Writing told given k phase' len pos' ended mine size' number' words'
  words_there phase' pos' words' lo hi lo' hi' there its_size =
      record {
        counted = λ y. v.counted (λ z. omega arith);
        published = λ y. absurd (omega arith);
        has = λ y. v.has lo;
        unmoved = λ y. absurd (omega arith);
        filling = λ y. absurd (omega arith);
        filled = λ y z. there;
        sized = λ y z. its_size y;
      }

  -- the slot is passed
  pub slot_passed : {size' number' : ℕ} {words' : ℕ → ℕ} → phase ≡ 1
      → Writing told given k phase len pos ended mine size' number' words'
  slot_passed e =
      record {
        counted = λ y. v.counted (λ z. omega arith);
        published = λ y. absurd (omega arith);
        has = λ y. v.has (omega arith);
        unmoved = v.unmoved;
        filling = λ y. absurd (omega arith);
        filled = λ y z. absurd (omega arith);
        sized = λ y z. absurd (omega arith);
      }

  -- one word filled in
  pub fill_goes_on : phase ≡ 2 → suc pos ≢ len
      → Writing told given k 2 len (suc pos) ended mine size number (λ j. changed_at words pos (mine pos) j)
  fill_goes_on e d =
      record {
        counted = λ y. v.counted (λ z. omega arith);
        published = λ y. absurd (omega arith);
        has = λ y. v.has (omega arith);
        unmoved = λ y. absurd (omega arith);
        filling = λ y. (omega (arith, (v.filling e).0), one_more (v.filling e).1);
        filled = λ y z. absurd (omega arith);
        sized = λ y z. absurd (omega arith);
      }

  pub fill_ends : phase ≡ 2 → suc pos ≡ len
      → Writing told given k 3 len (suc pos) ended mine size number (λ j. changed_at words pos (mine pos) j)
  fill_ends e d =
      words_there 3 (suc pos) (λ j. changed_at words pos (mine pos) j) (omega arith) (omega arith) (omega arith)
      (omega arith) (λ j l. one_more (v.filling e).1 j (omega arith)) (λ y. absurd (omega arith))

  -- what is published is the record that was given
  pub published_whole : suc phase ≡ told → (row size words ≡ given) × (number ≡ suc k)
  published_whole e =
      let (s, w) = v.sized (omega arith) (omega arith) in (
        ap (λ x. row x words) s ∙ row_same len words mine (v.filled (omega arith) (omega arith))
            ∙ (v.has (omega arith)).1,
        w ∙ ap suc (v.counted (λ z. omega arith)),
      )

  pub publishes_it : suc phase ≡ told → Writing told given (suc k) told len pos ended mine size number words
  publishes_it e =
      record {
        counted = λ y. absurd (y refl);
        published = λ y. ap suc (v.counted (λ z. omega arith));
        has = λ y. v.has (omega arith);
        unmoved = λ y. absurd (omega arith);
        filling = λ y. absurd (omega arith);
        filled = λ y z. absurd (omega arith);
        sized = λ y z. absurd (omega arith);
      }

  pub ends_it : phase ≡ told → Writing told given k 0 len pos (suc ended) mine size number words
  ends_it e =
      record {
        counted = λ y. v.published e;
        published = λ y. absurd (omega arith);
        has = λ y. absurd (omega arith);
        unmoved = λ y. absurd (omega arith);
        filling = λ y. absurd (omega arith);
        filled = λ y z. absurd (omega arith);
        sized = λ y z. absurd (omega arith);
      }

-- before anything was written
pub nothing_written : {told len pos size number : ℕ} {mine words : ℕ → ℕ} → 4 < told
    → Writing told [] 0 0 len pos 0 mine size number words
nothing_written high =
    record {
      counted = λ y. refl;
      published = λ y. absurd (omega arith);
      has = λ y. absurd (omega arith);
      unmoved = λ y. absurd (omega arith);
      filling = λ y. absurd (omega arith);
      filled = λ y z. absurd (omega arith);
      sized = λ y z. absurd (omega arith);
    }
