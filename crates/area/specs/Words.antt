-- Where the words of an area stand, and what a layout of the code says of it. Assumes nothing.
use Rattle.std.specs.Prelude.{◌≡◌, ◌&&◌, cond, List, ℕ, ◌+◌, ◌*◌, ◌≤◌, length}
use Rattle.std.specs.Prelude.{Option, Some, None}
use Rattle.theory.specs.Place.{Memory, Store}
use Rattle.theory.specs.Table.{Table, offset, base, width, total, view, store}
use Rattle.register.specs.Shape.{Shape, shape, known_form, in_range, limit, table, slots_at, desks_at, writer_at}
use Rattle.area.specs.declared.Layout.{Layout}

-- where word i of row r of part g stands
abbrev pub word_at : Table → ℕ → ℕ → ℕ → ℕ
word_at t g r i = base t g + (r * width t g + i)

module _ (k : Shape) where
  -- word i of slot s, of the desk of reader r, of the writer's desk
  abbrev pub slot_word : ℕ → ℕ → ℕ
  slot_word s i = word_at (table k) 1 s i

  abbrev pub desk_word : ℕ → ℕ → ℕ
  desk_word r i = word_at (table k) 2 r i

  abbrev pub writer_word : ℕ → ℕ
  writer_word i = word_at (table k) 3 0 i

  -- the layout of a shape
  abbrev pub layout_of : Layout
  layout_of =
      record {
        form = k.form;
        n = k.n;
        c = k.c;
        limit = limit k;
        slots = slots_at k;
        desks = desks_at k;
        desk = width (table k) 2;
        kept = offset (table k) 2 6;
        writer = writer_at k;
        total = total (table k);
      }

  -- the layout of a shape that there are areas of
  unfoldable pub laid : Option Layout
  laid = cond (known_form k.form && in_range k) (Some layout_of) None

-- the shape that a layout says
abbrev pub its_shape : Layout → Shape
its_shape p = shape p.form p.n p.c

-- a layout that is that of its own shape
pub record Laid (p : Layout) : Type 0 where
  pub few_readers : p.n ≤ 64
  pub few_words : p.c ≤ 256
  pub exact : p ≡ layout_of (its_shape p)

-- words that a layout fits
pub record Sized (p : Layout) (a : List ℕ) : Type 0 where
  pub laid : Laid p
  pub exact : length a ≡ total (table (its_shape p))

-- the memory that words are by a layout
abbrev pub memory_of : Layout → List ℕ → Memory
memory_of p a = view (table (its_shape p)) a

-- the words after some stores, by a layout
abbrev pub words_after : Layout → List ℕ → List Store → List ℕ
words_after p a l = store (table (its_shape p)) a l
