-- Where each word of an area stands, in document 01's own numbers: slots at 8, each of 4 + C words; reader desks next,
-- each of 6 + C; the writer's desk next, of 7 + C. Assumes nothing.
use Rattle.std.specs.Prelude.{◌≡◌, List, [], ◌∷◌, map, ℕ, ◌+◌, ◌*◌, ◌<◌}
use Rattle.register.specs.Area.{current, r_start, r_end, size, slot_write_number, contents, phase, last, pos}
use Rattle.register.specs.Area.{len, desk_write_number, finished, read_record, writer_phase, last_slot}
use Rattle.register.specs.Area.{in_hand, writer_pos, writer_len, old_word, writes_ended, write_record, memory}
use Rattle.register.specs.Shape.{Shape}
use Rattle.register.specs.Conditions.{slots_from, slot_words, desk_words, desks_from, writer_from, word, said}

module _ (a : List ℕ) where
  abbrev k : Shape
  k = said a

  -- word f of slot s, of the desk of reader r, of the writer's desk
  abbrev pub slot : ℕ → ℕ → ℕ
  slot s f = word a (slots_from k + s * slot_words k + f)

  abbrev pub desk : ℕ → ℕ → ℕ
  desk r f = word a (desks_from k + r * desk_words k + f)

  abbrev pub writer : ℕ → ℕ
  writer f = word a (writer_from k + f)

  pub record Stands : Type 0 where
    pub the_current : memory a current ≡ word a 7
    pub slots : (s : ℕ) → s < k.n + 2
        → map (memory a) (r_start s ∷ r_end s ∷ size s ∷ slot_write_number s ∷ [])
        ≡ slot s 0 ∷ slot s 1 ∷ slot s 2 ∷ slot s 3 ∷ []
    pub slot_contents : (s i : ℕ) → s < k.n + 2 → i < k.c → memory a (contents s i) ≡ slot s (4 + i)
    pub desks : (r : ℕ) → r < k.n
        → map (memory a) (phase r ∷ last r ∷ pos r ∷ len r ∷ desk_write_number r ∷ finished r ∷ [])
        ≡ desk r 0 ∷ desk r 1 ∷ desk r 2 ∷ desk r 3 ∷ desk r 4 ∷ desk r 5 ∷ []
    pub desk_records : (r i : ℕ) → r < k.n → i < k.c → memory a (read_record r i) ≡ desk r (6 + i)
    pub writer_desk : map (memory a)
        (writer_phase ∷ last_slot ∷ in_hand ∷ writer_pos ∷ writer_len ∷ old_word ∷ writes_ended ∷ [])
        ≡ writer 0 ∷ writer 1 ∷ writer 2 ∷ writer 3 ∷ writer 4 ∷ writer 5 ∷ writer 6 ∷ []
    pub writer_record : (i : ℕ) → i < k.c → memory a (write_record i) ≡ writer (7 + i)

-- of any words, by their words 0, 1 and 2
abbrev pub WordsStand : Type 0
WordsStand = (a : List ℕ) → Stands a
