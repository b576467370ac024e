-- Laws of pages: a valuation, with room behind it for a clause.
use Rattle.std.proofs.Common.{◌≡◌, ℕ, zero, suc, ◌+◌, ◌-◌, ◌≤◌, min, ◌⊎◌, List, [], ◌∷◌, ◌++◌, length, take, drop, set, ℤ, sym, refl, ap, ◌∙◌, inl, inr, arith, take_all, length-take-le}
use borrow.Rule.Slice.PartMut.{put_mid}
use Rattle.std.proofs.lemmas.List.{take_min, drop_min, append-nil, drop_all, length-append, length-drop, length-take, set-append_right, set_past, take-append-drop, take_at}
use Rattle.std.proofs.lemmas.Bool.{cases_lt}
use Rattle.rules.specs.Sources.{Answer.tells, laid, page_after}

pub laid_length : (C room : List ℤ) → length (laid C room) ≡ length room
laid_length [] room = refl
laid_length (l ∷ C) [] = refl
laid_length (l ∷ C) (w ∷ room) = ap suc (laid_length C room)

laid_push : (C room : List ℤ) (l : ℤ) → set (laid C room) (length C) l ≡ laid (C ++ (l ∷ [])) room
laid_push [] [] l = refl
laid_push [] (w ∷ room) l = refl
laid_push (k ∷ C) [] l = refl
laid_push (k ∷ C) (w ∷ room) l = ap (λ r. k ∷ r) (laid_push C room l)

laid_none : (C : List ℤ) → laid C [] ≡ []
laid_none [] = refl
laid_none (l ∷ C) = refl

-- a page with no room for a clause
page_short : (n : ℕ) (C page : List ℤ) → length page ≤ n → page_after n (tells C) page ≡ page
page_short n C page h = ap (λ r. take n page ++ r) (ap (laid C) (drop_all n page h) ∙ laid_none C) ∙ append-nil (take n page) ∙ take_all n page h

-- a clause leaves the valuation
pub page_front : (n : ℕ) (C page : List ℤ) → take n (page_after n (tells C) page) ≡ take n page
page_front n C page = elim (cases_lt (length page) n)
    [ inl h ↦ ap (take n) (page_short n C page (omega arith)) | inr h ↦ take_at (take n page) (laid C (drop n page)) n (length-take-le n page h) ]

-- and the page's length
page_long : (n : ℕ) (C page : List ℤ) → length (page_after n (tells C) page) ≡ length page
page_long n C page =
    let front = take n page in
    length-append front (laid C (drop n page)) ∙ ap (λ k. length front + k) (laid_length C (drop n page)) ∙ sym (length-append front (drop n page))
    ∙ ap length (take-append-drop n page)

-- one more word of the clause, behind as much of the valuation as the page has
pub page_push_behind : (n : ℕ) (C page : List ℤ) (l : ℤ)
    → set (page_after n (tells C) page) (min (length (page_after n (tells C) page)) n + length C) l ≡ page_after n (tells (C ++ (l ∷ []))) page
page_push_behind n C page l =
    let front = take n page in
    let room = laid C (drop n page) in
    let long = length-take n page in
    let all : length (front ++ room) ≡ length page = page_long n C page in
    let at = min (length (front ++ room)) n + length C in
    let e : at - length front ≡ length C = omega arith in
    set-append_right front room (length front) at l refl (omega arith) ∙ ap (λ k. front ++ set room k l) e ∙ ap (λ k. front ++ k) (laid_push C (drop n page) l)

-- one more word of the clause
pub page_push : (n : ℕ) (C page : List ℤ) (l : ℤ) → set (page_after n (tells C) page) (n + length C) l ≡ page_after n (tells (C ++ (l ∷ []))) page
page_push n C page l = elim (cases_lt (length page) n) [
  | inl h ↦ ap (λ q. set q (n + length C) l) (page_short n C page (omega arith)) ∙ set_past page (n + length C) l (omega arith) ∙ sym (page_short n (C ++ (l ∷ [])) page (omega arith))
  | inr h ↦
      let e : n ≡ min (length (page_after n (tells C) page)) n = omega (arith, page_long n C page) in
      ap (λ k. set (page_after n (tells C) page) (k + length C) l) e ∙ page_push_behind n C page l
]

-- a clause laid behind another
pub laid_more : (A B room : List ℤ) → take (length A) (laid A room) ++ laid B (drop (length A) (laid A room)) ≡ laid (A ++ B) room
laid_more [] B room = refl
laid_more (l ∷ A) B [] = laid_none B
laid_more (l ∷ A) B (w ∷ room) = ap (λ r. l ∷ r) (laid_more A B room)

-- a clause laid over room: k literals of it fit, and either it has no more or the room has none
laid_front : (k : ℕ) (C room : List ℤ) → k ≤ length C → k ≤ length room → (length C ≤ k) ⊎ (length room ≤ k) → take k C ++ drop k room ≡ laid C room
laid_front zero [] room a b h = refl
laid_front zero (l ∷ C) [] a b h = refl
laid_front zero (l ∷ C) (w ∷ room) a b (inl h) = absurd (omega arith)
laid_front zero (l ∷ C) (w ∷ room) a b (inr h) = absurd (omega arith)
laid_front (suc k) [] room a b h = absurd (omega arith)
laid_front (suc k) (l ∷ C) [] a b h = absurd (omega arith)
laid_front (suc k) (l ∷ C) (w ∷ room) a b (inl h) = ap (λ r. l ∷ r) (laid_front k C room (omega arith) (omega arith) (inl (omega arith)))
laid_front (suc k) (l ∷ C) (w ∷ room) a b (inr h) = ap (λ r. l ∷ r) (laid_front k C room (omega arith) (omega arith) (inr (omega arith)))

-- what `k` literals written behind the valuation of n variables leave
pub page_told : (n : ℕ) (page C : List ℤ) (start k : ℕ) → start ≡ min n (length page) → k ≡ min (length C) (length page - start)
    → put_mid start k page (take k C) ≡ page_after n (tells C) page
page_told n page C start k es ek =
    let room = drop start page in
    let long = length-drop start page in
    let ends : (length C ≤ k) ⊎ (length room ≤ k) = elim (cases_lt (length C) (length page - start)) [ inl h ↦ inl (omega arith) | inr h ↦ inr (omega arith) ] in
    ap (λ r. take start page ++ r) (laid_front k C room (omega arith) (omega arith) ends)
    ∙ ap (λ r. r ++ laid C room) (ap (λ j. take j page) es ∙ take_min n page)
    ∙ ap (λ r. take n page ++ laid C r) (ap (λ j. drop j page) es ∙ drop_min n page)
