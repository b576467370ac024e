-- Laws of gaps and words: one byte more, one word more.
use Rattle.std.proofs.Common.{◌≡◌, ℕ, suc, ◌+◌, ◌<◌, ◌≤◌, Bool, true, false, cond, ltb, List, [], ◌∷◌, ◌++◌, length, get_or, take, drop, ℤ, Some, None, Ok, Err, Option, Result, unwrap_or, sym, refl, ap, ◌∙◌, append_assoc, append-nil, add-zero, add-one, length-take, arith}
use mathlib.Core.Bool.{false≢true}
use Rattle.std.proofs.lemmas.List.{at_drop_more, at_drop_all, drop-drop}
use Rattle.std.proofs.lemmas.List.Recursion.{is_position_or_len}
use Rattle.std.proofs.lemmas.Bool.{cond_both}
use Rattle.std.proofs.lemmas.Bool.Decides.{nat_tests}
use Rattle.std.specs.List.{position_or_len, position as first_place}
use Rattle.rulefile.specs.Bytes.{class_of}
use Rattle.rulefile.specs.declared.bytes.Class.{Class}
use Rattle.rulefile.specs.declared.bytes.Class.TheVariants.{Blank, LineEnd, Digit, Minus, Other}
use Rattle.rulefile.specs.declared.words.Mode.{Mode}
use Rattle.rulefile.specs.declared.words.Mode.TheVariants.{Fresh, Inside, Comment}
use Rattle.rulefile.specs.declared.words.Position.{Position}
use Rattle.rulefile.specs.declared.words.Misspelling.{Misspelling}
use Rattle.rulefile.specs.Numbers.{number_of}
use Rattle.rulefile.specs.Words.{gap_class, is_gap, in_line, in_comment, passed, line_after, Spot, spot, gap, run, Seen, number, other, bad, end, position, meant, begun, word_seen, between, within, shown, took, left_after}

-- A WORD'S BYTES

run_place : (bs : List ℕ) → run bs ≡ position_or_len is_gap bs
run_place bs = is_position_or_len run is_gap refl (λ b bs. ap (λ n. cond (is_gap b) 0 n) (let e : run bs + 1 ≡ 1 + run bs = omega arith in e)) bs

run_within : (bs : List ℕ) → run bs ≤ length bs
run_within [] = omega arith
run_within (b ∷ bs) = cond_both (is_gap b) 0 (run bs + 1) (λ n. n ≤ length (b ∷ bs)) (λ _. omega arith) (λ _. omega (arith, run_within bs))

-- the place of the first byte that is not of a word, or all of them
pub run_position : (bs : List ℕ) → unwrap_or (first_place is_gap bs) (length bs) ≡ run bs
run_position bs =
    let short : position_or_len is_gap bs ≤ length bs = omega (arith, run_within bs, run_place bs) in
    cond_both (ltb (position_or_len is_gap bs) (length bs)) (Some (position_or_len is_gap bs)) None (λ o. unwrap_or o (length bs) ≡ run bs) (λ _. sym (run_place bs)) (λ e. grind (arith, nat_tests, run_place))

-- at a byte of a gap no word goes on
pub run_stop : (s : List ℕ) (n : ℕ) → n < length s → is_gap (get_or s n 0) ≡ true → run (drop n s) ≡ 0
run_stop s n h e = at_drop_more run s n 0 h ∙ ap (λ (t : Bool). cond t 0 (run (drop (n + 1) s) + 1)) e

pub run_more : (s : List ℕ) (n : ℕ) → n < length s → is_gap (get_or s n 0) ≡ false → run (drop n s) ≡ run (drop (n + 1) s) + 1
run_more s n h e = at_drop_more run s n 0 h ∙ ap (λ (t : Bool). cond t 0 (run (drop (n + 1) s) + 1)) e

-- A GAP'S BYTES

abbrev gap_on : ℕ → ℕ → ℕ → List ℕ → Option Mode → Spot
gap_on p l b bs o = elim o [ None ↦ spot p l (b ∷ bs) | Some n ↦ gap n (p + 1) (line_after l b) bs ]

-- where a gap goes on over a byte, it is the gap from the next byte on
pub gap_more : (m k : Mode) (p l : ℕ) (s : List ℕ) → p < length s → passed m (get_or s p 0) ≡ Some k
    → gap m p l (drop p s) ≡ gap k (p + 1) (line_after l (get_or s p 0)) (drop (p + 1) s)
gap_more m k p l s h e = at_drop_more (gap m p l) s p 0 h ∙ ap (gap_on p l (get_or s p 0) (drop (p + 1) s)) e

-- where it does not go on over a byte, it ends there
pub gap_stop : (m : Mode) (p l : ℕ) (s : List ℕ) → p < length s → passed m (get_or s p 0) ≡ None → gap m p l (drop p s) ≡ spot p l (drop p s)
gap_stop m p l s h e = at_drop_more (gap m p l) s p 0 h ∙ ap (gap_on p l (get_or s p 0) (drop (p + 1) s)) e ∙ sym (at_drop_more (spot p l) s p 0 h)

line_stop : (k : Class) (o : Option Mode) → in_line k o ≡ None → gap_class k ≡ false
line_stop Blank o e = cc
line_stop LineEnd o e = cc
line_stop Digit o e = refl
line_stop Minus o e = refl
line_stop Other o e = refl

comment_stop : (k : Class) → in_comment k ≡ None → gap_class k ≡ false
comment_stop Blank e = cc
comment_stop LineEnd e = cc
comment_stop Digit e = refl
comment_stop Minus e = refl
comment_stop Other e = refl

-- where a gap stops, a word begins
pub passed_stop : (m : Mode) (b : ℕ) → passed m b ≡ None → is_gap b ≡ false
passed_stop Fresh b e = line_stop (class_of b) _ e
passed_stop Inside b e = line_stop (class_of b) None e
passed_stop Comment b e = comment_stop (class_of b) e

-- WHAT A TEXT SHOWS

-- from a spot on
abbrev shown_at : Spot → List Seen
shown_at s = elim s.rest [ [] ↦ end (position s.line s.place) ∷ [] | b ∷ bs ↦ shown (within (b ∷ []) (position s.line s.place)) (s.place + 1) s.line bs ]

gap_shown : (m : Mode) (p l : ℕ) (bs : List ℕ) → shown (between m) p l bs ≡ shown_at (gap m p l bs)
gap_shown m p l [] = refl
gap_shown m p l (b ∷ bs) = by (passed m b) (λ n. gap_shown n (p + 1) (line_after l b) bs)
  where
    by : (o : Option Mode) → ((n : Mode) → shown (between n) (p + 1) (line_after l b) bs ≡ shown_at (gap n (p + 1) (line_after l b) bs))
        → elim o as (λ _. List Seen) [ None ↦ shown (within (b ∷ []) (position l p)) (p + 1) l bs | Some n ↦ shown (between n) (p + 1) (line_after l b) bs ] ≡ shown_at (gap_on p l b bs o)
    by None h = refl
    by (Some n) h = h n

-- within a line, a byte is of a gap exactly when a gap goes on over it
data Goes (k : Class) : Type 0 where
  on : (n : Mode) → gap_class k ≡ true → in_line k None ≡ Some n → Goes k
  off : gap_class k ≡ false → in_line k None ≡ None → Goes k

goes : (k : Class) → Goes k
goes Blank = on Inside refl refl
goes LineEnd = on Fresh refl refl
goes Digit = off refl refl
goes Minus = off refl refl
goes Other = off refl refl

-- a word to its end, and what comes after it
module _ (a : Position) (l : ℕ) where
  abbrev pub split : List ℕ → ℕ → List ℕ → ℕ → List Seen
  split w q bs k = word_seen (w ++ take k bs) a ∷ shown (between Inside) (q + k) l (drop k bs)

  pub word_shown : (w : List ℕ) (q : ℕ) (bs : List ℕ) → shown (within w a) q l bs ≡ split w q bs (run bs)
  word_shown w q [] = rw (append-nil w, add-zero q) refl
  word_shown w q (b ∷ bs) = by (goes (class_of b)) (word_shown (w ++ (b ∷ [])) (q + 1) bs)
    where
      by : Goes (class_of b) → shown (within (w ++ (b ∷ [])) a) (q + 1) l bs ≡ split (w ++ (b ∷ [])) (q + 1) bs (run bs) → shown (within w a) q l (b ∷ bs) ≡ split w q (b ∷ bs) (run (b ∷ bs))
      by (on n g e) h =
          let r : run (b ∷ bs) ≡ 0 = ap (λ (t : Bool). cond t 0 (run bs + 1)) g in
          ap (λ (o : Option Mode). elim o as (λ _. List Seen) [ None ↦ shown (within (w ++ (b ∷ [])) a) (q + 1) l bs | Some n ↦ word_seen w a ∷ shown (between n) (q + 1) (line_after l b) bs ]) e
          ∙ sym (ap (split w q (b ∷ bs)) r ∙ (rw (append-nil w, add-zero q) refl)
          ∙ ap (λ (o : Option Mode). word_seen w a ∷ elim o as (λ _. List Seen) [ None ↦ shown (within (b ∷ []) (position l q)) (q + 1) l bs | Some n ↦ shown (between n) (q + 1) (line_after l b) bs ]) e)
      by (off g e) h =
          let r : run (b ∷ bs) ≡ suc (run bs) = ap (λ (t : Bool). cond t 0 (run bs + 1)) g ∙ (let s : run bs + 1 ≡ suc (run bs) = omega arith in s) in
          let s : q + 1 + run bs ≡ q + suc (run bs) = omega arith in
          ap (λ (o : Option Mode). elim o as (λ _. List Seen) [ None ↦ shown (within (w ++ (b ∷ [])) a) (q + 1) l bs | Some n ↦ word_seen w a ∷ shown (between n) (q + 1) (line_after l b) bs ]) e
          ∙ h ∙ (rw (append_assoc, s) refl) ∙ sym (ap (split w q (b ∷ bs)) r)

-- what a word is seen as: never the end
abbrev is_end : Seen → Bool
is_end (number w z p) = false
is_end (other w p) = false
is_end (bad f) = false
is_end (end p) = true

meant_goes : (w : List ℕ) (a : Position) (z : Result ℤ Misspelling) (rest : List Seen) → (took (meant w a z) rest ≡ meant w a z ∷ rest) × (is_end (meant w a z) ≡ false)
meant_goes w a (Ok z) rest = (refl, refl)
meant_goes w a (Err k) rest = (refl, refl)

begun_goes : (k : Class) (w : List ℕ) (a : Position) (rest : List Seen) → (took (begun k w a) rest ≡ begun k w a ∷ rest) × (is_end (begun k w a) ≡ false)
begun_goes Blank w a rest = (refl, refl)
begun_goes LineEnd w a rest = (refl, refl)
begun_goes Digit w a rest = meant_goes w a (number_of w) rest
begun_goes Minus w a rest = meant_goes w a (number_of w) rest
begun_goes Other w a rest = (refl, refl)

word_goes : (w : List ℕ) (a : Position) (rest : List Seen) → (took (word_seen w a) rest ≡ word_seen w a ∷ rest) × (is_end (word_seen w a) ≡ false)
word_goes [] a rest = (refl, refl)
word_goes (b ∷ bs) a rest = begun_goes (class_of b) (b ∷ bs) a rest

left_took : (t : Seen) (rest : List Seen) → is_end t ≡ false → rest ≡ left_after (took t rest)
left_took (number w z p) rest e = refl
left_took (other w p) rest e = refl
left_took (bad f) rest e = refl
left_took (end p) rest e = absurd (false≢true (sym e))

-- From the place p of the text r in line l, a gap leads to the place q of the text s in line k.
module _ (m : Mode) (p l q k : ℕ) (r s : List ℕ) (led : gap m p l (drop p r) ≡ spot q k (drop q s)) where
  -- there the text ends
  pub end_next : length s ≤ q → shown (between m) p l (drop p r) ≡ end (position k q) ∷ []
  end_next h = gap_shown m p l (drop p r) ∙ ap shown_at led ∙ at_drop_all (λ (x : List ℕ). shown_at (spot q k x)) s q h

  pub end_again : (n : Mode) → length s ≤ q → shown (between n) q k (drop q s) ≡ left_after (shown (between m) p l (drop p r))
  end_again n h = at_drop_all (shown (between n) q k) s q h ∙ ap left_after (sym (end_next h))

  -- there a word begins, of the bytes w
  module _ (w : List ℕ) (more : q < length s) (stops : is_gap (get_or s q 0) ≡ false) (part : w ≡ take (run (drop q s)) (drop q s)) where
    long : run (drop q s) ≡ suc (run (drop (q + 1) s))
    long = run_more s q more stops ∙ add-one (run (drop (q + 1) s))

    part_is : w ≡ get_or s q 0 ∷ take (run (drop (q + 1) s)) (drop (q + 1) s)
    part_is = part ∙ ap (λ n. take n (drop q s)) long ∙ at_drop_more (take (suc (run (drop (q + 1) s)))) s q 0 more

    part_length : length w ≡ 1 + run (drop (q + 1) s)
    part_length = omega (arith, ap length part, length-take {A = ℕ} (run (drop q s)) (drop q s), run_within (drop q s), long)

    word_next : shown (between m) p l (drop p r) ≡ word_seen w (position k q) ∷ shown (between Inside) (q + length w) k (drop (q + length w) s)
    word_next =
        let e : q + 1 + run (drop (q + 1) s) ≡ q + length w = omega (arith, part_length) in
        gap_shown m p l (drop p r) ∙ ap shown_at led ∙ at_drop_more (λ (x : List ℕ). shown_at (spot q k x)) s q 0 more
        ∙ word_shown (position k q) k (get_or s q 0 ∷ []) (q + 1) (drop (q + 1) s)
        ∙ ap (λ (x : List ℕ). word_seen (get_or s q 0 ∷ take (run (drop (q + 1) s)) (drop (q + 1) s)) (position k q) ∷ shown (between Inside) (q + 1 + run (drop (q + 1) s)) k x) (drop-drop (run (drop (q + 1) s)) (q + 1) s)
        ∙ (rw e refl) ∙ ap (λ (v : List ℕ). word_seen v (position k q) ∷ shown (between Inside) (q + length w) k (drop (q + length w) s)) (sym part_is)

    pub token_next : (t : Seen) → t ≡ word_seen w (position k q) → let rest = shown (between Inside) (q + length w) k (drop (q + length w) s) in let here = shown (between m) p l (drop p r) in (here ≡ took t rest) × (rest ≡ left_after here)
    token_next t e =
        let rest = shown (between Inside) (q + length w) k (drop (q + length w) s) in
        let g = word_goes w (position k q) rest in
        let here = word_next ∙ sym g.0 ∙ ap (λ (x : Seen). took x rest) (sym e) in
        (here, left_took t rest (ap is_end e ∙ g.1) ∙ ap left_after (sym here))
