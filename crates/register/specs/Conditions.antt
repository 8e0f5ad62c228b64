-- What document 01 asks of numbers, of an area and of an undamaged one, as facts in its own numerals: one field for
-- each condition. `Area` has the same as tests; `Numbers` says which call answers what by these. Assumes nothing.
use Rattle.std.specs.Prelude.{◌≡◌, ◌≢◌, List, ℕ, ◌+◌, ◌*◌, ◌/◌, ◌%◌, ◌≤◌, ◌<◌, length, get_or}
use Rattle.theory.specs.Place.{Memory}
use Rattle.register.specs.Area.{current, r_start, r_end, size, phase, last, pos, len, finished, writer_phase}
use Rattle.register.specs.Area.{last_slot, in_hand, writer_pos, writer_len, old_word, writes_ended, memory}
use Rattle.register.specs.Shape.{Shape, shape}

-- ---- numbers: the form is 1, N is 1 to 64, C is 1 to 256

abbrev pub KnownForm : ℕ → Type 0
KnownForm form = form ≡ 1

pub record InRange (k : Shape) : Type 0 where
  pub some_readers : 1 ≤ k.n
  pub few_readers : k.n ≤ 64
  pub some_words : 1 ≤ k.c
  pub few_words : k.c ≤ 256

-- ---- the layout: where the slots begin, the words of a slot and of a reader's desk, where the desks begin, the
-- total T; and the most that r_start, r_end and the counters may be

module _ (k : Shape) where
  abbrev pub slots_from : ℕ
  slots_from = 8

  abbrev pub slot_words : ℕ
  slot_words = 4 + k.c

  abbrev pub desk_words : ℕ
  desk_words = 6 + k.c

  abbrev pub desks_from : ℕ
  desks_from = slots_from + (k.n + 2) * slot_words

  abbrev pub writer_from : ℕ
  writer_from = desks_from + k.n * desk_words

  abbrev pub T_of : ℕ
  T_of = writer_from + 7 + k.c

  abbrev pub most_counted : ℕ
  most_counted = k.n

-- ---- an area: eight words or more, and words 0 to 6 and the length are as the layout has them

module _ (a : List ℕ) where
  -- word i
  abbrev pub word : ℕ → ℕ
  word i = get_or a i 0

  -- the form, N and C that it says
  abbrev pub said : Shape
  said = shape (word 0) (word 1) (word 2)

  pub record AnArea : Type 0 where
    pub eight : 8 ≤ length a
    pub form : KnownForm (word 0)
    pub range : InRange said
    pub total : word 3 ≡ T_of said
    pub slots : word 4 ≡ slots_from said
    pub desks : word 5 ≡ desks_from said
    pub writer : word 6 ≡ writer_from said
    pub exact : length a ≡ T_of said

-- ---- undamaged

-- the current word, or the old word: its index is below N + 2, its counter at most N
pub record WordWhole (k : Shape) (word : ℕ) : Type 0 where
  pub slot : word / 4294967296 < k.n + 2
  pub count : word % 4294967296 ≤ most_counted k

-- r_start and r_end are at most N, size is at most C
pub record SlotWhole (k : Shape) (started gone size : ℕ) : Type 0 where
  pub start : started ≤ most_counted k
  pub end : gone ≤ most_counted k
  pub words : size ≤ k.c

-- pos is at most len, len at most C; pos is below len in phase 5
pub record DeskWhole (k : Shape) (phase last pos len finished : ℕ) : Type 0 where
  pub phases : phase ≤ 5
  pub slot : last < k.n + 2
  pub part : pos ≤ len
  pub words : len ≤ k.c
  pub flag : finished ≤ 1
  pub copying : phase ≡ 5 → pos < len

-- pos is below len in phase 2 and 0 in phase 1; writes ended is below 2^64 − 1 unless the phase is 0
pub record WriterWhole (k : Shape) (phase last hand pos len old ended : ℕ) : Type 0 where
  pub phases : phase ≤ 7
  pub last_one : last < k.n + 2
  pub hand_one : hand < k.n + 2
  pub part : pos ≤ len
  pub words : len ≤ k.c
  pub before : WordWhole k old
  pub copying : phase ≡ 2 → pos < len
  pub unmoved : phase ≡ 1 → pos ≡ 0
  pub room : phase ≢ 0 → ended < 18446744073709551615

module _ (k : Shape) (m : Memory) where
  abbrev pub Slot : ℕ → Type 0
  Slot s = SlotWhole k (m (r_start s)) (m (r_end s)) (m (size s))

  abbrev pub Desk : ℕ → Type 0
  Desk r = DeskWhole k (m (phase r)) (m (last r)) (m (pos r)) (m (len r)) (m (finished r))

  abbrev pub Writer : Type 0
  Writer =
      WriterWhole k (m writer_phase) (m last_slot) (m in_hand) (m writer_pos) (m writer_len) (m old_word)
      (m writes_ended)

  -- the current word, every slot, every reader's desk, the writer's desk
  pub record Whole : Type 0 where
    pub word : WordWhole k (m current)
    pub slot : (s : ℕ) → s < k.n + 2 → Slot s
    pub desk : (r : ℕ) → r < k.n → Desk r
    pub writer : Writer

-- of any words
abbrev pub Undamaged : List ℕ → Type 0
Undamaged a = Whole (said a) (memory a)
