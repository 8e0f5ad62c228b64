-- A call on any list of words: a refusal changes nothing; an accepted call was made on an undamaged area, carries its
-- plan out and leaves an undamaged area with the same head.
--     same_area                           words with the head and the length of an area are one
--     refused_is, refused_keeps           a refusal
--     Opened, opened                      what an accepted call was made of
--     does                                the move of the relation that an accepted call is
--     after_is, after_length, after_head, after_area, after_shape, after_view, after_memory, after_exact,
--     after_whole, after_sound            the area that it leaves
-- Assumes nothing.
use mathlib.Core.Path.{◌≡◌, refl, sym, ap, subst, ◌∙◌}
use mathlib.Core.Logic.{◌≢◌}
use mathlib.Core.Bool.{Bool, true, false, cond}
use mathlib.Core.List.{List}
use Prim.Native.Nat.{ℕ, ◌<◌}
use native.Mathlib.Omega.{arith}
use lib.Dec.{lit<}
use lib.ListN.{length, get_or}
use Rattle.register.proofs.Facts.{every_call, AreaFacts, area_facts, its_plan, whole_area, sound_area, unless_all}
use Rattle.theory.specs.Place.{Store, apply}
use Rattle.theory.specs.Table.{total, view, store}
use Rattle.register.specs.Area.{shape_of, readers, is_area, memory, undamaged}
use Rattle.register.specs.Shape.{Shape, table}
use Rattle.register.specs.Steps.{Plan, refuse, accept, Move, mover, has_call}
use Rattle.register.specs.Calls.{Answer, refused, carried_out, answered, call_tests}
use Rattle.atomic.specs.Demands.{Refused}
use Rattle.theory.proofs.Tables.{view_store, length_store, store_untouched}
use Rattle.register.proofs.Body.{AllInBody, all_has, head_untouched}
use Rattle.atomic.proofs.Moves.{Does, by}
use Rattle.register.specs.Conditions.{Whole}
use Rattle.atomic.proofs.Stays.{stays_whole}
use Rattle.atomic.proofs.Planned.{Outcome, seen, plan_does}

-- an area with the same head and length is one too
pub same_area : (a b : List ℕ) → length b ≡ length a → ((i : ℕ) → i < 7 → get_or b i 0 ≡ get_or a i 0)
    → is_area b ≡ is_area a
unfolding is_area
same_area a b l head =
    rw (
      l,
      head 0 (lit< tt),
      head 1 (lit< tt),
      head 2 (lit< tt),
      head 3 (lit< tt),
      head 4 (lit< tt),
      head 5
          (lit< tt),
      head 6 (lit< tt),
    )

-- ---- a refusal

pub refused_is : (k : ℕ) (a : List ℕ) → Refused a (refused k a)
refused_is k a = record { ended = refl; age = refl; area = refl }

pub refused_keeps : (a : List ℕ) (x : Move) → (answered a x).number ≢ 0 → Refused a (answered a x)
unfolding answered carried_out
refused_keeps a x =
    unless_all P (λ i. refused i a) (call_tests a (has_call (shape_of a) x)) _ (λ i d. refused_is i a)
    (by_plan (its_plan a x))
  where
    P : Answer → Type 0
    P y = y.number ≢ 0 → Refused a y

    by_plan : (y : Plan) → P (carried_out (mover (shape_of a) x) a y)
    by_plan (refuse k) d = refused_is k a
    by_plan (accept stores ends) d = absurd (d refl)

-- ---- an accepted call

pub record Opened (a : List ℕ) (x : Move) : Type 0 where
  pub stores : List Store
  pub ends : Bool
  pub area : is_area a ≡ true
  pub sound : undamaged a ≡ true
  pub chosen : its_plan a x ≡ accept stores ends
  pub answers : answered a x ≡ carried_out (mover (shape_of a) x) a (accept stores ends)

pub opened : (a : List ℕ) (x : Move) → (answered a x).number ≡ 0 → Opened a x
unfolding answered carried_out
opened a x z = go (is_area a) refl (undamaged a) refl (its_plan a x) refl
  where
    Comes : Move → Plan → Type 0
    Comes x = Outcome (shape_of a) (memory a) (mover (shape_of a) x) (seen (readers a) (memory a) x)

    comes_to : (b u : Bool) (y : Plan) → is_area a ≡ b → undamaged a ≡ u → its_plan a x ≡ y
        → answered a x ≡ cond b (cond u (carried_out (mover (shape_of a) x) a y) (refused 2 a)) (refused 1 a)
    comes_to b u y eb eu ey =
        λ i.
        cond (eb i)
        (cond (every_call (shape_of a) x i)
        (cond (eu i) (carried_out (mover (shape_of a) x) a (ey i)) (refused 2 a)) (refused 1 a)) (refused 1 a)

    go : (b : Bool) → is_area a ≡ b → (u : Bool) → undamaged a ≡ u → (y : Plan) → its_plan a x ≡ y
        → Opened a x
    go false eb u eu y ey = let k = ap (λ r. r.number) (comes_to false u y eb eu ey) in absurd (omega arith)
    go true eb false eu y ey = let k = ap (λ r. r.number) (comes_to true false y eb eu ey) in absurd (omega arith)
    go true eb true eu (refuse j) ey =
        let k = ap (λ r. r.number) (comes_to true true (refuse j) eb eu ey) in
        let does = plan_does (shape_of a) (memory a) (whole_area a eu) x in
        absurd (subst (Comes x) ey does (omega arith))
    go true eb true eu (accept stores ends) ey =
        record {
          stores = stores;
          ends = ends;
          area = eb;
          sound = eu;
          chosen = ey;
          answers = comes_to true true (accept stores ends) eb eu ey;
        }

-- what it leaves, over the area's own shape
module _ {a : List ℕ} {x : Move} (o : Opened a x) where
  abbrev shape : Shape
  shape = shape_of a

  abbrev b : List ℕ
  b = (answered a x).area

  facts : AreaFacts a
  facts = area_facts a o.area

  -- the plan's stores, and the move that they are
  pub does : Does shape (memory a)
      (by (mover shape x) (seen (readers a) (memory a) x o.ends (apply (memory a) o.stores)))
      (apply (memory a) o.stores)
      × AllInBody shape o.stores
  does =
      subst (Outcome shape (memory a) (mover shape x) (seen (readers a) (memory a) x)) o.chosen
      (plan_does shape (memory a) (whole_area a o.sound) x)

  pub after_is : b ≡ store (table shape) a o.stores
  unfolding carried_out
  after_is = ap (λ r. r.area) o.answers

  pub after_length : length b ≡ length a
  after_length = ap length after_is ∙ length_store (table shape) a o.stores

  pub after_head : (i : ℕ) → i < 7 → get_or b i 0 ≡ get_or a i 0
  after_head i l =
      ap (λ y. get_or y i 0) after_is
      ∙ store_untouched (table shape) a o.stores i (head_untouched shape i l does.1)

  pub after_area : is_area b ≡ true
  after_area = same_area a b after_length after_head ∙ o.area

  pub after_shape : shape_of b ≡ shape
  after_shape = λ i.
      record { form = after_head 0 (lit< tt) i; n = after_head 1 (lit< tt) i; c = after_head 2 (lit< tt) i }

  pub after_view : view (table shape) (store (table shape) a o.stores) ≡ apply (memory a) o.stores
  after_view = view_store (table shape) a o.stores facts.exact (all_has shape does.1)

  pub after_memory : memory b ≡ apply (memory a) o.stores
  after_memory = ap (λ k. view (table k) b) after_shape ∙ ap (view (table shape)) after_is ∙ after_view

  pub after_exact : length b ≡ total (table (shape_of b))
  after_exact = after_length ∙ facts.exact ∙ ap (λ k. total (table k)) (sym after_shape)

  pub after_whole : Whole shape (memory b)
  after_whole =
      subst (Whole shape) (sym after_memory)
      (stays_whole shape (omega (arith, facts.range)) (whole_area a o.sound) does.0)

  pub after_sound : undamaged b ≡ true
  after_sound = sound_area b shape after_shape after_whole
