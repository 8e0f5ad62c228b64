-- The end of a read, and the room for one more write behind the stores before it. Assumes nothing.
--     stored                 the memory behind stores to a reader's desk
--     ended                  the end of a read: what it stores does not bear on the age
--     room_taken             what step 4 stores before that leaves room for one more write
use Rattle.std.proofs.Common.{◌≡◌, sym, ap, subst, ◌∙◌, true, List, [], ◌∷◌, ℕ, ◌<◌, arith}
use Rattle.std.specs.Prelude.{cond, Ok, Some}
use borrow.Author.Tests.{lt-ltb}
use Rattle.register.specs.Shape.{table}
use Rattle.theory.specs.Lists.{none, also}
use Rattle.theory.specs.Place.{Memory, Store, ◌≔◌, apply}
use Rattle.theory.proofs.Tables.{AllHas, view_store}
use Rattle.register.specs.Area.{pos, len, desk_write_number, writer_phase, writes_ended, most_writes}
use Rattle.register.specs.Steps.{accept, finishes}
use Rattle.register.specs.Calls.{age_of}
use Rattle.register.proofs.Body.{body_desk}
use Rattle.area.specs.Words.{memory_of, words_after}
use Rattle.area.specs.Lent.{shape_at, memory_at, After}
use Rattle.area.specs.declared.lent.Area.{Area}
use Rattle.answer.specs.Carried.{whole, Ready, SumFits, carried, carried_at}

module _ (a : Area) {r : ℕ} (h : r < a.layout.n) where
  -- the memory behind stores
  stored : (l : List Store) → AllHas (table (shape_at a)) l
      → memory_of a.layout (words_after a.layout a.words.now l) ≡ apply (memory_at a) l
  stored l = view_store (table (shape_at a)) a.words.now l a.sized.exact

  -- the end of a read
  pub ended : {age : ℕ} {b : Area} → age ≡ age_of (memory_at a) r → After a (finishes r) b
      → whole (Ok (Some age)) b.words.now ≡ carried_at r a (accept (finishes r) true)
  unfolding carried
  ended e f =
      rw (f.words, e)
      (ap (λ y. whole (Ok (Some y)) (words_after a.layout a.words.now (finishes r)))
      (sym (ap (λ q. cond q (age_of (memory_of a.layout (words_after a.layout a.words.now (finishes r))) r) 0)
      (lt-ltb r a.layout.n h)
      ∙ ap (λ m. age_of m r)
      (stored (finishes r)
      (also (body_desk (shape_at a) 5 r (omega arith) h).has
      (also (body_desk (shape_at a) 0 r (omega arith) h).has none))))))

  -- what step 4 stores before that
  pub room_taken : {b : Area} {k w i : ℕ} → Ready a
      → After a (len r ≔ k ∷ desk_write_number r ≔ w ∷ pos r ≔ i ∷ []) b
      → (r < b.layout.n) × SumFits (memory_at b)
  room_taken {b = b} {k = k} {w = w} {i = i} v f =
      let l = len r ≔ k ∷ desk_write_number r ≔ w ∷ pos r ≔ i ∷ [] in
      let later : memory_at b ≡ apply (memory_at a) l =
      rw (f.same.layout, f.words)
      (stored l
      (also (body_desk (shape_at a) 3 r (omega arith) h).has
      (also (body_desk (shape_at a) 4 r (omega arith) h).has
      (also (body_desk (shape_at a) 2 r (omega arith) h).has none)))) in (
        rw f.same.layout h,
        subst (λ (m : Memory). m writer_phase ≡ 7 → m writes_ended < most_writes) (sym later)
            (λ (s : memory_at a writer_phase ≡ 7). v.writer.room (λ z. omega (arith, s, z))),
      )
