-- A lent area: its shape, the memory that it is, and what stores leave of it. Assumes nothing.
use Rattle.std.specs.Prelude.{◌≡◌, List}
use Rattle.theory.specs.Place.{Memory, Store}
use Rattle.register.specs.Shape.{Shape}
use Rattle.area.specs.Words.{its_shape, memory_of, words_after}
use Rattle.area.specs.declared.lent.Area.{Area}
use Rattle.area.specs.declared.lent.View.{View}

abbrev pub shape_at : Area → Shape
shape_at a = its_shape a.layout

abbrev pub memory_at : Area → Memory
memory_at a = memory_of a.layout a.words.now

-- the same of an area that is only read
abbrev pub shape_seen : View → Shape
shape_seen v = its_shape v.layout

abbrev pub memory_seen : View → Memory
memory_seen v = memory_of v.layout v.words.now

-- the same lent words, under the same layout, whatever they hold
pub record Same (a b : Area) : Type 0 where
  pub layout : b.layout ≡ a.layout
  pub lent : b.words.ghost_name ≡ a.words.ghost_name

-- the same lent area, with the words that stores leave
pub record After (a : Area) (l : List Store) (b : Area) : Type 0 where
  pub same : Same a b
  pub words : b.words.now ≡ words_after a.layout a.words.now l
