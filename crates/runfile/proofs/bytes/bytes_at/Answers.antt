-- `bytes::bytes_at` meets its contract: each call gave the byte at its place. Assumes nothing.
use Rattle.std.proofs.Common.{rules, arith, ◌≡◌, ℕ, zero, suc, ◌+◌, length, List, get_or, drop, refl, subst}
use Rattle.std.proofs.lemmas.List.{get_or-drop}
use Rattle.std.proofs.lemmas.Grind.{common_steps}
use Rattle.std.proofs.Math.Seq.{drop-cons}
use Rattle.std.proofs.Math.ListN.{drop_of_length-le}
use Rattle.std.specs.Array.{IsFromFnResultFrom}
use denote.Param.Members.{Mut, Called}
use Rattle.runfile.specs.Bytes.{bytes_at}
use Rattle.runfile.proofs.bytes.bytes_at.Goals as goal

module _ {F : Type 0} (g : Mut F (ℕ × Unit {0}) ℕ) (f : F) (b : List ℕ) (at : ℕ)
    (one : (i y : ℕ) (q : F) → Called g f (i, tt) y q → (y ≡ get_or b (at + i) 0) × (q ≡ f))
    (l : List ℕ) where
  -- calls at the n indices from i on gave the bytes from there on
  called : (n i j : ℕ) (p : F) → p ≡ f → j ≡ at + i → length l ≡ i + n → IsFromFnResultFrom g p l i n
      → drop i l ≡ bytes_at n b j
  called zero i j p e at_i long all = drop_of_length-le l (omega arith)
  called (suc n) i j p e at_i long (q, y, (here, any), call, rest) =
      let (value, same) = one i y q (subst (λ z. Called g z (i, tt) y q) e call) in
      let first = any 0 in
      let others = called n (i + 1) (j + 1) q same (omega arith) (omega arith) rest in
      let next : i + 1 ≡ suc i = omega arith in
      let next_place : j + 1 ≡ suc j = omega arith in
      let front = drop-cons l i 0 (omega arith) in
      cc

pub returns : goal.returns
returns g c =
    let b = c.args.bytes.now in
    let at = c.args.at in
    let rest : c.unwrap_or-rest.result.now ≡ drop at b = grind (arith, common_steps) in
    let found = c.from_fn.ensures.items in
    called _ _ b at (λ i y q k. (cc (get_or-drop at b i 0), search rules)) c.from_fn.result g.row.K 0 at _ refl
    (omega arith) (omega (arith, found.long)) found.each
