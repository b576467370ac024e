-- What a text shows are parts of the text itself.
use Rattle.std.proofs.Common.{◌≡◌, ℕ, ◌+◌, ◌≤◌, Bool, true, false, cond, eqb, List, [], ◌∷◌, ◌++◌, length, take, drop, ℤ, Some, None, Ok, Err, All, Option, Result, sym, refl, ap, ◌∙◌, append_assoc, append-nil, arith}
use Rattle.std.proofs.lemmas.List.{length-append, length_push, take_at, drop_at}
use Rattle.std.proofs.lemmas.List.Elements.{All-nil, All-cons}
use Rattle.std.proofs.lemmas.Bool.{eqb-true, both_ways}
use Rattle.rulefile.specs.Bytes.{class_of}
use Rattle.rulefile.specs.declared.bytes.Class.{Class}
use Rattle.rulefile.specs.declared.bytes.Class.TheVariants.{Blank, LineEnd, Digit, Minus, Other}
use Rattle.rulefile.specs.declared.words.Mode.{Mode}
use Rattle.rulefile.specs.declared.words.Mode.TheVariants.{Fresh, Inside}
use Rattle.rulefile.specs.declared.words.Misspelling.{Misspelling}
use Rattle.rulefile.specs.declared.words.Position.{Position}
use Rattle.rulefile.specs.Numbers.{number_of}
use Rattle.rulefile.specs.Words.{is_gap, passed, line_after, Seen, end, position, meant, begun, word_seen, At, between, within, shown, seen_in}
use Rattle.rulefile.specs.Places.{feeds, Stands, Shows}
use Rattle.rulefile.proofs.WordLaws.{passed_stop}

feeds_push : (bs : List ℕ) (b : ℕ) → feeds (bs ++ (b ∷ [])) ≡ feeds bs + cond (eqb b 10) 1 0
feeds_push [] b = omega arith
feeds_push (c ∷ bs) b = let i = feeds_push bs b in omega arith

-- a byte of a word is no line feed
pub no_feed : (b : ℕ) → is_gap b ≡ false → eqb b 10 ≡ false
no_feed b h = by (eqb b 10) refl
  where
    by : (t : Bool) → eqb b 10 ≡ t → eqb b 10 ≡ false
    by true e = absurd (both_ways (is_gap b) h (ap is_gap (eqb-true b 10 e)))
    by false e = e

-- a position behind the front of a text
pub record Behind (front : List ℕ) (l p : ℕ) : Type 0 where
  pub line : l ≡ 1 + feeds front
  pub place : p ≡ length front

-- one byte more
pub behind_byte : (front : List ℕ) (b l p : ℕ) → Behind front l p → Behind (front ++ (b ∷ [])) (line_after l b) (p + 1)
behind_byte front b l p h = record { line = (let i = feeds_push front b in omega (arith, h.line)); place = omega (arith, h.place, length_push front b) }

pub behind_plain_byte : (front : List ℕ) (b l p : ℕ) → eqb b 10 ≡ false → Behind front l p → Behind (front ++ (b ∷ [])) l (p + 1)
behind_plain_byte front b l p g h =
    let n : ◌≡◌ {A = ℕ} (cond (eqb b 10) 1 0) 0 = ap (λ (t : Bool). cond {A = ℕ} t 1 0) g in
    record { line = (let i = feeds_push front b in omega (arith, h.line)); place = omega (arith, h.place, length_push front b) }

module _ (text : List ℕ) where
  meant_shows : (w : List ℕ) (a : Position) (z : Result ℤ Misspelling) → number_of w ≡ z → Stands text a → take (length w) (drop a.place text) ≡ w → Shows text (meant w a z)
  meant_shows w a (Ok z) i s e = (s, e, i)
  meant_shows w a (Err k) i s e = (s, (w, e, i))

  begun_shows : (k : Class) (w : List ℕ) (a : Position) → Stands text a → take (length w) (drop a.place text) ≡ w → Shows text (begun k w a)
  begun_shows Blank w a s e = (s, e)
  begun_shows LineEnd w a s e = (s, e)
  begun_shows Digit w a s e = meant_shows w a (number_of w) refl s e
  begun_shows Minus w a s e = meant_shows w a (number_of w) refl s e
  begun_shows Other w a s e = (s, e)

  word_shows : (w : List ℕ) (a : Position) → Stands text a → take (length w) (drop a.place text) ≡ w → Shows text (word_seen w a)
  word_shows [] a s e = (s, e)
  word_shows (b ∷ bs) a s e = begun_shows (class_of b) (b ∷ bs) a s e

  -- a word at a position
  word_stands : (front w rest : List ℕ) (a : Position) → text ≡ front ++ (w ++ rest) → Behind front a.line a.place → Shows text (word_seen w a)
  word_stands front w rest a e h =
      let here : take a.place text ≡ front = ap (take a.place) e ∙ take_at front (w ++ rest) a.place (sym h.place) in
      let there : drop a.place text ≡ w ++ rest = ap (drop a.place) e ∙ drop_at front (w ++ rest) a.place (sym h.place) in
      let long = ap length e ∙ length-append front (w ++ rest) in
      let low : a.place ≤ length text = omega (arith, h.place, long) in
      word_shows w a (low, h.line ∙ ap (λ k. 1 + feeds k) (sym here)) (ap (take (length w)) there ∙ take_at w rest (length w) refl)

  end_stands : (front : List ℕ) (l p : ℕ) → text ≡ front ++ [] → Behind front l p → Shows text (end (position l p))
  end_stands front l p e h = let same : front ≡ text = sym (e ∙ append-nil front) in (h.line ∙ ap (λ k. 1 + feeds k) same, h.place ∙ ap length same)

  -- where a walk over the text stands, behind its front
  abbrev Walks : At → List ℕ → Type 0
  Walks (between m) front = Unit {0}
  Walks (within w a) front = (before : List ℕ) × (front ≡ before ++ w) × Behind before a.line a.place

  module _ (b : ℕ) (bs front : List ℕ) (e : text ≡ front ++ (b ∷ bs)) (l p : ℕ) (h : Behind front l p)
      (ih : (st : At) (l p : ℕ) → Behind (front ++ (b ∷ [])) l p → Walks st (front ++ (b ∷ [])) → All (Shows text) (shown st p l bs)) where
    between_byte : (m : Mode) (o : Option Mode) → passed m b ≡ o
        → All (Shows text) (elim o as (λ _. List Seen) [ None ↦ shown (within (b ∷ []) (position l p)) (p + 1) l bs | Some n ↦ shown (between n) (p + 1) (line_after l b) bs ])
    between_byte m None q = ih (within (b ∷ []) (position l p)) l (p + 1) (behind_plain_byte front b l p (no_feed b (passed_stop m b q)) h) (front, refl, h)
    between_byte m (Some n) q = ih (between n) (line_after l b) (p + 1) (behind_byte front b l p h) tt

    within_byte : (w : List ℕ) (a : Position) → Walks (within w a) front → (o : Option Mode) → passed Inside b ≡ o
        → All (Shows text) (elim o as (λ _. List Seen) [ None ↦ shown (within (w ++ (b ∷ [])) a) (p + 1) l bs | Some n ↦ word_seen w a ∷ shown (between n) (p + 1) (line_after l b) bs ])
    within_byte w a (before, is, at) None q =
        ih (within (w ++ (b ∷ [])) a) l (p + 1) (behind_plain_byte front b l p (no_feed b (passed_stop Inside b q)) h) (before, ap (λ k. k ++ (b ∷ [])) is ∙ append_assoc before w (b ∷ []), at)
    within_byte w a (before, is, at) (Some n) q =
        All-cons (Shows text) (word_seen w a) (shown (between n) (p + 1) (line_after l b) bs) (word_stands before w (b ∷ bs) a (e ∙ ap (λ k. k ++ (b ∷ bs)) is ∙ append_assoc before w (b ∷ bs)) at)
        (ih (between n) (line_after l b) (p + 1) (behind_byte front b l p h) tt)

  end_shows : (front : List ℕ) (l p : ℕ) → text ≡ front ++ [] → Behind front l p → All (Shows text) (end (position l p) ∷ [])
  end_shows front l p e h = All-cons (Shows text) (end (position l p)) [] (end_stands front l p e h) (All-nil (Shows text))

  walk_shows : (bs front : List ℕ) → text ≡ front ++ bs → (st : At) (l p : ℕ) → Behind front l p → Walks st front → All (Shows text) (shown st p l bs)
  walk_shows [] front e (between m) l p h w = end_shows front l p e h
  walk_shows [] front e (within w a) l p h (before, is, at) =
      All-cons (Shows text) (word_seen w a) (end (position l p) ∷ []) (word_stands before w [] a (e ∙ ap (λ k. k ++ []) is ∙ append_assoc before w []) at) (end_shows front l p e h)
  walk_shows (b ∷ bs) front e (between m) l p h w = between_byte b bs front e l p h (walk_shows bs (front ++ (b ∷ [])) (e ∙ sym (append_assoc front (b ∷ []) bs))) m (passed m b) refl
  walk_shows (b ∷ bs) front e (within w a) l p h k = within_byte b bs front e l p h (walk_shows bs (front ++ (b ∷ [])) (e ∙ sym (append_assoc front (b ∷ []) bs))) w a k (passed Inside b) refl

  pub text_shows : All (Shows text) (seen_in text)
  text_shows = walk_shows text [] refl (between Fresh) 1 0 (record { line = refl; place = refl }) tt
