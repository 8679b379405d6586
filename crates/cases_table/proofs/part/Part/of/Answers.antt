-- `Part::of` takes the first 3,200 bytes: each byte is pushed behind those before it.
use Rattle.std.proofs.Common.{◌≡◌, refl, ◌∙◌, sym, ap, ℕ, zero, suc, List, [], ◌∷◌, ◌++◌, get_or, take, arith}
use Rattle.std.proofs.lemmas.List.{take_more}
use Rattle.cases_table.proofs.part.Part.of.Goals as goal

-- what is put behind the first n numbers is cut off as it is behind all of them
taken_again : (n : ℕ) (xs ys : List ℕ) → take n (take n xs ++ ys) ≡ take n (xs ++ ys)
taken_again zero xs ys = refl
taken_again (suc n) [] ys = refl
taken_again (suc n) (x ∷ xs) ys = ap (λ z. x ∷ z) (taken_again n xs ys)

pub loop-b-preserved : goal.loop-b-preserved
loop-b-preserved c =
    let text = c.args.bytes.now in
    let i = c.loop-b.b-index in
    c.push.ensures
    ∙ ap (λ z. take 3200 (z ++ get_or text i 0 ∷ [])) c.loop-b.invariant
    ∙ taken_again 3200 (take i text) (get_or text i 0 ∷ [])
    ∙ ap (take 3200) (sym (take_more text i 0 (omega arith)))
