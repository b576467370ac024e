-- A text is gaps and words, and what it shows are its words.
use Rattle.std.proofs.Common.{◌≡◌, ℕ, ◌+◌, Bool, true, false, cond, ◌&&◌, eqb, List, [], ◌∷◌, ◌++◌, length, drop, Some, None, All, Option, sym, refl, ap, ◌∙◌, subst, append_assoc, append-nil, arith}
use Rattle.std.proofs.lemmas.List.{take_at, drop_at}
use Rattle.std.proofs.lemmas.List.Elements.{All-nil, All-cons, All-head, All-tail, All-append}
use Rattle.std.proofs.lemmas.Bool.{cond-true, cond-false, eqb-true, ne_eqb, both_ways}
use Rattle.rulefile.specs.Bytes.{class_of, is_blank, is_digit}
use Rattle.rulefile.specs.declared.bytes.Class.{Class}
use Rattle.rulefile.specs.declared.bytes.Class.TheVariants.{Blank, LineEnd, Digit, Minus, Other}
use Rattle.rulefile.specs.declared.words.Mode.{Mode}
use Rattle.rulefile.specs.declared.words.Mode.TheVariants.{Fresh, Inside, Comment}
use Rattle.rulefile.specs.declared.words.Position.{Position}
use Rattle.rulefile.specs.Words.{gap_class, is_gap, in_line, in_comment, passed, line_after, run, Seen, end, position, word_seen, between, within, shown, seen_in}
use Rattle.rulefile.specs.Parts.{behind, begins, line_begins, comment_begins, OfComment, OfWord, comment_stops, word_stops, Parted, nothing, between_words, comment, word, Whole}
use Rattle.rulefile.proofs.WordLaws.{split, word_shown}
use Rattle.rulefile.proofs.PlaceLaws.{Behind, behind_byte, behind_plain_byte, no_feed}

-- BYTES

-- what a byte is between words, and how a gap goes on after it
data Byte (b : ℕ) : Type 0 where
  blank : is_gap b ≡ true → eqb b 10 ≡ false → passed Fresh b ≡ Some Inside → passed Inside b ≡ Some Inside → passed Comment b ≡ Some Comment → Byte b
  feed : is_gap b ≡ true → eqb b 10 ≡ true → passed Fresh b ≡ Some Fresh → passed Inside b ≡ Some Fresh → passed Comment b ≡ Some Fresh → Byte b
  plain : is_gap b ≡ false → eqb b 10 ≡ false → passed Fresh b ≡ cond (eqb b 99) (Some Comment) None → passed Inside b ≡ None → passed Comment b ≡ Some Comment → Byte b

feed_class : (s t u v : Bool) → cond s Blank (cond t LineEnd (cond u Digit (cond v Minus Other))) ≡ LineEnd → t ≡ true
feed_class true t u v e = cc
feed_class false true u v e = refl
feed_class false false true v e = cc
feed_class false false false true e = cc
feed_class false false false false e = cc

other_byte : (b n : ℕ) (k : Class) → class_of b ≡ k → (class_of n ≡ k → ⊥) → eqb b n ≡ false
other_byte b n k e h = ne_eqb b n (λ q. h (ap class_of (sym q) ∙ e))

byte_of : (b : ℕ) → Byte b
byte_of b = by (class_of b) refl
  where
    line : (k : Class) → class_of b ≡ k → (o : Option Mode) → in_line (class_of b) o ≡ in_line k o
    line k e o = ap (λ (c : Class). in_line c o) e

    number : (k : Class) → class_of b ≡ k → gap_class k ≡ false → ((o : Option Mode) → in_line k o ≡ None) → in_comment k ≡ Some Comment → (class_of 10 ≡ k → ⊥) → (class_of 99 ≡ k → ⊥) → Byte b
    number k e g i c t n =
        let no : cond (eqb b 99) (Some Comment) None ≡ None = ap (λ (x : Bool). cond x (Some Comment) None) (other_byte b 99 k e n) in
        plain (ap gap_class e ∙ g) (other_byte b 10 k e t) (line k e _ ∙ i _ ∙ sym no) (line k e None ∙ i None) (ap in_comment e ∙ c)

    by : (k : Class) → class_of b ≡ k → Byte b
    by Blank e = blank (ap gap_class e) (other_byte b 10 Blank e (λ q. let r : LineEnd ≡ Blank = q in cc)) (line Blank e _) (line Blank e None) (ap in_comment e)
    by LineEnd e = feed (ap gap_class e) (feed_class (is_blank b) (eqb b 10) (is_digit b) (eqb b 45) e) (line LineEnd e _) (line LineEnd e None) (ap in_comment e)
    by Digit e = number Digit e refl (λ o. refl) refl (λ q. let r : LineEnd ≡ Digit = q in cc) (λ q. let r : Other ≡ Digit = q in cc)
    by Minus e = number Minus e refl (λ o. refl) refl (λ q. let r : LineEnd ≡ Minus = q in cc) (λ q. let r : Other ≡ Minus = q in cc)
    by Other e = plain (ap gap_class e) (other_byte b 10 Other e (λ q. let r : LineEnd ≡ Other = q in cc)) (line Other e _) (line Other e None) (ap in_comment e)

-- LINES

begins_push : (bs : List ℕ) (t : Bool) (b : ℕ) → begins t (bs ++ (b ∷ [])) ≡ eqb b 10
begins_push [] t b = refl
begins_push (c ∷ bs) t b = begins_push bs (eqb c 10) b

begins_append : (bs cs : List ℕ) (t : Bool) → begins t (bs ++ cs) ≡ begins (begins t bs) cs
begins_append [] cs t = refl
begins_append (b ∷ bs) cs t = begins_append bs cs (eqb b 10)

begins_none : (bs : List ℕ) → All OfComment bs → begins false bs ≡ false
begins_none [] h = refl
begins_none (b ∷ bs) h = ap (λ (t : Bool). begins t bs) (All-head OfComment b bs h) ∙ begins_none bs (All-tail OfComment b bs h)

line_goes_on : (before : List ℕ) (b : ℕ) (bs : List ℕ) → All OfComment (b ∷ bs) → line_begins (before ++ (b ∷ bs)) ≡ false
line_goes_on before b bs h = begins_append before (b ∷ bs) true ∙ ap (λ (t : Bool). begins t bs) (All-head OfComment b bs h) ∙ begins_none bs (All-tail OfComment b bs h)

plain_bytes : (bs : List ℕ) → All OfWord bs → All OfComment bs
plain_bytes [] h = All-nil OfComment
plain_bytes (b ∷ bs) h = All-cons OfComment b bs (no_feed b (All-head OfWord b bs h)) (plain_bytes bs (All-tail OfWord b bs h))

here : (before : List ℕ) (l p : ℕ) → Behind before l p → behind before ≡ position l p
here before l p h = let line = h.line in let place = h.place in cc

-- bytes without a line feed
behind_bytes : (bs before : List ℕ) (l p q : ℕ) → q ≡ p + length bs → All OfComment bs → Behind before l p → Behind (before ++ bs) l q
behind_bytes [] before l p q e a h = subst (λ (x : List ℕ). Behind x l q) (sym (append-nil before)) (record { line = h.line; place = omega (arith, h.place) })
behind_bytes (b ∷ bs) before l p q e a h =
    subst (λ (x : List ℕ). Behind x l q) (append_assoc before (b ∷ []) bs)
    (behind_bytes bs (before ++ (b ∷ [])) l (p + 1) q (omega arith) (All-tail OfComment b bs a) (behind_plain_byte before b l p (All-head OfComment b bs a) h))

-- A WALK'S STEPS

abbrev between_on : ℕ → ℕ → ℕ → List ℕ → Option Mode → List Seen
between_on p l b bs o = elim o [ None ↦ shown (within (b ∷ []) (position l p)) (p + 1) l bs | Some n ↦ shown (between n) (p + 1) (line_after l b) bs ]

abbrev within_on : List ℕ → Position → ℕ → ℕ → ℕ → List ℕ → Option Mode → List Seen
within_on w a p l b bs o = elim o [ None ↦ shown (within (w ++ (b ∷ [])) a) (p + 1) l bs | Some n ↦ word_seen w a ∷ shown (between n) (p + 1) (line_after l b) bs ]

-- WHAT A TEXT SHOWS ARE ITS WORDS

ended : (before : List ℕ) (l p : ℕ) → Behind before l p → Parted before [] (end (position l p) ∷ [])
ended before l p h = subst (λ (a : Position). Parted before [] (end a ∷ [])) (here before l p h) (nothing before)

-- a walk between words, in a comment or in a word, over the bytes to come
record Walks (bs : List ℕ) : Type 0 where
  fresh : (before : List ℕ) (l p : ℕ) → Behind before l p → line_begins before ≡ true → Parted before bs (shown (between Fresh) p l bs)
  inside : (before : List ℕ) (l p : ℕ) → Behind before l p → line_begins before ≡ false → Parted before bs (shown (between Inside) p l bs)
  comments : (before : List ℕ) (c : ℕ) (cs : List ℕ) (l p : ℕ) → Behind (before ++ (c ∷ cs)) l p → comment_begins before c ≡ true → All OfComment cs
      → Parted before (c ∷ (cs ++ bs)) (shown (between Comment) p l bs)
  words : (before : List ℕ) (c : ℕ) (cs : List ℕ) (a : Position) (l p : ℕ) → behind before ≡ a → Behind (before ++ (c ∷ cs)) l p → comment_begins before c ≡ false → All OfWord (c ∷ cs)
      → Parted before (c ∷ (cs ++ bs)) (shown (within (c ∷ cs) a) p l bs)

word_at : (before : List ℕ) (c : ℕ) (cs rest : List ℕ) (a : Position) (ts : List Seen) → behind before ≡ a → comment_begins before c ≡ false → All OfWord (c ∷ cs) → word_stops rest ≡ true
    → Parted (before ++ (c ∷ cs)) rest ts → Parted before (c ∷ (cs ++ rest)) (word_seen (c ∷ cs) a ∷ ts)
word_at before c cs rest a ts e o w s more = subst (λ (x : Position). Parted before (c ∷ (cs ++ rest)) (word_seen (c ∷ cs) x ∷ ts)) e (word before c cs rest ts o w s more)

walks_none : Walks []
walks_none = record {
  fresh = λ before l p h f. ended before l p h;
  inside = λ before l p h f. ended before l p h;
  comments = λ before c cs l p h o a. comment before c cs [] _ o a refl (ended (before ++ (c ∷ cs)) l p h);
  words = λ before c cs a l p e h o w. word_at before c cs [] a _ e o w refl (ended (before ++ (c ∷ cs)) l p h);
}

module _ (b : ℕ) (bs : List ℕ) (ih : Walks bs) where
  -- behind a byte between words
  after_blank : (before : List ℕ) (l p : ℕ) → Behind before l p → is_gap b ≡ true → eqb b 10 ≡ false → Parted before (b ∷ bs) (shown (between Inside) (p + 1) (line_after l b) bs)
  after_blank before l p h g n = between_words before b bs _ g (ih.inside (before ++ (b ∷ [])) (line_after l b) (p + 1) (behind_byte before b l p h) (begins_push before true b ∙ n))

  after_feed : (before : List ℕ) (l p : ℕ) → Behind before l p → is_gap b ≡ true → eqb b 10 ≡ true → Parted before (b ∷ bs) (shown (between Fresh) (p + 1) (line_after l b) bs)
  after_feed before l p h g n = between_words before b bs _ g (ih.fresh (before ++ (b ∷ [])) (line_after l b) (p + 1) (behind_byte before b l p h) (begins_push before true b ∙ n))

  first_of_word : (before : List ℕ) (l p : ℕ) → Behind before l p → comment_begins before b ≡ false → is_gap b ≡ false → Parted before (b ∷ bs) (shown (within (b ∷ []) (position l p)) (p + 1) l bs)
  first_of_word before l p h o g = ih.words before b [] (position l p) l (p + 1) (here before l p h) (behind_plain_byte before b l p (no_feed b g) h) o (All-cons OfWord b [] g (All-nil OfWord))

  first_of_comment : (before : List ℕ) (l p : ℕ) → Behind before l p → comment_begins before b ≡ true → Parted before (b ∷ bs) (shown (between Comment) (p + 1) (line_after l b) bs)
  first_of_comment before l p h o = ih.comments before b [] (line_after l b) (p + 1) (behind_byte before b l p h) o (All-nil OfComment)

  fresh_more : (before : List ℕ) (l p : ℕ) → Behind before l p → line_begins before ≡ true → Parted before (b ∷ bs) (shown (between Fresh) p l (b ∷ bs))
  fresh_more before l p h f = by (byte_of b)
    where
      to : (o : Option Mode) → passed Fresh b ≡ o → Parted before (b ∷ bs) (between_on p l b bs o) → Parted before (b ∷ bs) (shown (between Fresh) p l (b ∷ bs))
      to o e t = subst (λ (x : Option Mode). Parted before (b ∷ bs) (between_on p l b bs x)) (sym e) t

      starts : (t : Bool) → eqb b 99 ≡ t → is_gap b ≡ false → Parted before (b ∷ bs) (between_on p l b bs (cond t (Some Comment) None))
      starts true e g = first_of_comment before l p h (ap (λ (x : Bool). x && eqb b 99) f ∙ e)
      starts false e g = first_of_word before l p h (ap (λ (x : Bool). x && eqb b 99) f ∙ e) g

      by : Byte b → Parted before (b ∷ bs) (shown (between Fresh) p l (b ∷ bs))
      by (blank g n i j k) = to (Some Inside) i (after_blank before l p h g n)
      by (feed g n i j k) = to (Some Fresh) i (after_feed before l p h g n)
      by (plain g n i j k) = to (cond (eqb b 99) (Some Comment) None) i (starts (eqb b 99) refl g)

  inside_more : (before : List ℕ) (l p : ℕ) → Behind before l p → line_begins before ≡ false → Parted before (b ∷ bs) (shown (between Inside) p l (b ∷ bs))
  inside_more before l p h f = by (byte_of b)
    where
      to : (o : Option Mode) → passed Inside b ≡ o → Parted before (b ∷ bs) (between_on p l b bs o) → Parted before (b ∷ bs) (shown (between Inside) p l (b ∷ bs))
      to o e t = subst (λ (x : Option Mode). Parted before (b ∷ bs) (between_on p l b bs x)) (sym e) t

      by : Byte b → Parted before (b ∷ bs) (shown (between Inside) p l (b ∷ bs))
      by (blank g n i j k) = to (Some Inside) j (after_blank before l p h g n)
      by (feed g n i j k) = to (Some Fresh) j (after_feed before l p h g n)
      by (plain g n i j k) = to None j (first_of_word before l p h (ap (λ (x : Bool). x && eqb b 99) f) g)

  -- the bytes of a part and one more
  longer : (before : List ℕ) (c : ℕ) (cs : List ℕ) (ts : List Seen) → Parted before (c ∷ ((cs ++ (b ∷ [])) ++ bs)) ts → Parted before (c ∷ (cs ++ (b ∷ bs))) ts
  longer before c cs ts t = subst (λ (x : List ℕ). Parted before (c ∷ x) ts) (append_assoc cs (b ∷ []) bs) t

  longer_behind : (before : List ℕ) (c : ℕ) (cs : List ℕ) (l p : ℕ) → Behind ((before ++ (c ∷ cs)) ++ (b ∷ [])) l p → Behind (before ++ (c ∷ (cs ++ (b ∷ [])))) l p
  longer_behind before c cs l p t = subst (λ (x : List ℕ). Behind x l p) (append_assoc before (c ∷ cs) (b ∷ [])) t

  comment_more : (before : List ℕ) (c : ℕ) (cs : List ℕ) (l p : ℕ) → Behind (before ++ (c ∷ cs)) l p → comment_begins before c ≡ true → All OfComment cs
      → Parted before (c ∷ (cs ++ (b ∷ bs))) (shown (between Comment) p l (b ∷ bs))
  comment_more before c cs l p h o a = by (byte_of b)
    where
      to : (m : Option Mode) → passed Comment b ≡ m → Parted before (c ∷ (cs ++ (b ∷ bs))) (between_on p l b bs m) → Parted before (c ∷ (cs ++ (b ∷ bs))) (shown (between Comment) p l (b ∷ bs))
      to m e t = subst (λ (x : Option Mode). Parted before (c ∷ (cs ++ (b ∷ bs))) (between_on p l b bs x)) (sym e) t

      on : eqb b 10 ≡ false → Parted before (c ∷ (cs ++ (b ∷ bs))) (shown (between Comment) (p + 1) (line_after l b) bs)
      on n = longer before c cs _ (ih.comments before c (cs ++ (b ∷ [])) (line_after l b) (p + 1) (longer_behind before c cs _ _ (behind_byte (before ++ (c ∷ cs)) b l p h)) o
          (All-append OfComment cs (b ∷ []) a (All-cons OfComment b [] n (All-nil OfComment))))

      by : Byte b → Parted before (c ∷ (cs ++ (b ∷ bs))) (shown (between Comment) p l (b ∷ bs))
      by (blank g n i j k) = to (Some Comment) k (on n)
      by (feed g n i j k) = to (Some Fresh) k (comment before c cs (b ∷ bs) _ o a n (after_feed (before ++ (c ∷ cs)) l p h g n))
      by (plain g n i j k) = to (Some Comment) k (on n)

  word_more : (before : List ℕ) (c : ℕ) (cs : List ℕ) (a : Position) (l p : ℕ) → behind before ≡ a → Behind (before ++ (c ∷ cs)) l p → comment_begins before c ≡ false → All OfWord (c ∷ cs)
      → Parted before (c ∷ (cs ++ (b ∷ bs))) (shown (within (c ∷ cs) a) p l (b ∷ bs))
  word_more before c cs a l p e h o w = by (byte_of b)
    where
      to : (m : Option Mode) → passed Inside b ≡ m → Parted before (c ∷ (cs ++ (b ∷ bs))) (within_on (c ∷ cs) a p l b bs m) → Parted before (c ∷ (cs ++ (b ∷ bs))) (shown (within (c ∷ cs) a) p l (b ∷ bs))
      to m q t = subst (λ (x : Option Mode). Parted before (c ∷ (cs ++ (b ∷ bs))) (within_on (c ∷ cs) a p l b bs x)) (sym q) t

      by : Byte b → Parted before (c ∷ (cs ++ (b ∷ bs))) (shown (within (c ∷ cs) a) p l (b ∷ bs))
      by (blank g n i j k) = to (Some Inside) j (word_at before c cs (b ∷ bs) a _ e o w g (after_blank (before ++ (c ∷ cs)) l p h g n))
      by (feed g n i j k) = to (Some Fresh) j (word_at before c cs (b ∷ bs) a _ e o w g (after_feed (before ++ (c ∷ cs)) l p h g n))
      by (plain g n i j k) = to None j (longer before c cs _ (ih.words before c (cs ++ (b ∷ [])) a l (p + 1) e (longer_behind before c cs _ _ (behind_plain_byte (before ++ (c ∷ cs)) b l p n h)) o
          (All-append OfWord (c ∷ cs) (b ∷ []) w (All-cons OfWord b [] g (All-nil OfWord)))))

  walks_more : Walks (b ∷ bs)
  walks_more = record { fresh = fresh_more; inside = inside_more; comments = comment_more; words = word_more }

walks : (bs : List ℕ) → Walks bs
walks [] = walks_none
walks (b ∷ bs) = walks_more b bs (walks bs)

text_parted : (text : List ℕ) → Parted [] text (seen_in text)
text_parted text = let w = walks text in w.fresh [] 1 0 (record { line = refl; place = refl }) refl

-- AND NOTHING ELSE

-- how a walk stands behind these bytes, outside words and comments
abbrev mode_behind : List ℕ → Mode
mode_behind before = cond (line_begins before) Fresh Inside

-- a comment to its end
comment_shown : (bs rest : List ℕ) (l p q : ℕ) → q ≡ p + length bs → All OfComment bs → comment_stops rest ≡ true → shown (between Comment) p l (bs ++ rest) ≡ shown (between Inside) q l rest
comment_shown [] [] l p q e a s = let same : p ≡ q = omega arith in ap (λ (k : ℕ). end (position l k) ∷ []) same
comment_shown [] (b ∷ rest) l p q e a s = by (byte_of b)
  where
    by : Byte b → shown (between Comment) p l (b ∷ rest) ≡ shown (between Inside) q l (b ∷ rest)
    by (blank g n i j k) = absurd (both_ways (eqb b 10) n s)
    by (feed g n i j k) =
        let same : p ≡ q = omega arith in
        ap (between_on p l b rest) k ∙ ap (λ (x : ℕ). shown (between Fresh) (x + 1) (line_after l b) rest) same ∙ sym (ap (between_on q l b rest) j)
    by (plain g n i j k) = absurd (both_ways (eqb b 10) n s)
comment_shown (b ∷ bs) rest l p q e a s = by (byte_of b) (comment_shown bs rest l (p + 1) q (omega arith) (All-tail OfComment b bs a) s)
  where
    no : eqb b 10 ≡ false
    no = All-head OfComment b bs a

    on : passed Comment b ≡ Some Comment → shown (between Comment) (p + 1) l (bs ++ rest) ≡ shown (between Inside) q l rest → shown (between Comment) p l (b ∷ (bs ++ rest)) ≡ shown (between Inside) q l rest
    on k ih =
        let same : line_after l b ≡ l = ap (λ (t : Bool). l + cond t 1 0) no ∙ (omega arith) in
        ap (between_on p l b (bs ++ rest)) k ∙ ap (λ (x : ℕ). shown (between Comment) (p + 1) x (bs ++ rest)) same ∙ ih

    by : Byte b → shown (between Comment) (p + 1) l (bs ++ rest) ≡ shown (between Inside) q l rest → shown (between Comment) p l (b ∷ (bs ++ rest)) ≡ shown (between Inside) q l rest
    by (blank g n i j k) ih = on k ih
    by (feed g n i j k) ih = absurd (both_ways (eqb b 10) no n)
    by (plain g n i j k) ih = on k ih

-- a word to its end
word_length : (bs rest : List ℕ) → All OfWord bs → word_stops rest ≡ true → run (bs ++ rest) ≡ length bs
word_length [] [] h s = refl
word_length [] (b ∷ rest) h s = cond-true (is_gap b) 0 (run rest + 1) s
word_length (b ∷ bs) rest h s = cond-false (is_gap b) 0 (run (bs ++ rest) + 1) (All-head OfWord b bs h) ∙ (let i = word_length bs rest (All-tail OfWord b bs h) s in omega arith)

rest_shown : (bs rest w : List ℕ) (a : Position) (l p : ℕ) → All OfWord bs → word_stops rest ≡ true → shown (within w a) p l (bs ++ rest) ≡ word_seen (w ++ bs) a ∷ shown (between Inside) (p + length bs) l rest
rest_shown bs rest w a l p h s =
    word_shown a l w p (bs ++ rest) ∙ ap (split a l w p (bs ++ rest)) (word_length bs rest h s)
    ∙ ap (λ (x : List ℕ). word_seen (w ++ x) a ∷ shown (between Inside) (p + length bs) l (drop (length bs) (bs ++ rest))) (take_at bs rest (length bs) refl)
    ∙ ap (λ (x : List ℕ). word_seen (w ++ bs) a ∷ shown (between Inside) (p + length bs) l x) (drop_at bs rest (length bs) refl)

-- a walk between words over a byte between words, or over the first of a word
gap_passed : (t : Bool) (b : ℕ) (m : Mode) → passed Fresh b ≡ Some m → passed Inside b ≡ Some m → passed (cond t Fresh Inside) b ≡ Some m
gap_passed true b m i j = i
gap_passed false b m i j = j

word_passed : (t : Bool) (b : ℕ) → (t && eqb b 99) ≡ false → Byte b → is_gap b ≡ false → passed (cond t Fresh Inside) b ≡ None
word_passed t b o (blank g n i j k) w = absurd (both_ways (is_gap b) w g)
word_passed t b o (feed g n i j k) w = absurd (both_ways (is_gap b) w g)
word_passed true b o (plain g n i j k) w = i ∙ ap (λ (x : Bool). cond x (Some Comment) None) o
word_passed false b o (plain g n i j k) w = j

comment_passed : (t : Bool) (b : ℕ) → (t && eqb b 99) ≡ true → (passed (cond t Fresh Inside) b ≡ Some Comment) × (eqb b 10 ≡ false)
comment_passed true b o = let e = eqb-true b 99 o in (ap (passed Fresh) e, ap (λ (x : ℕ). eqb x 10) e)
comment_passed false b o = cc

only_one : (before rest : List ℕ) (ts : List Seen) → Parted before rest ts → (l p : ℕ) → Behind before l p → ts ≡ shown (between (mode_behind before)) p l rest
only_one before0 rest0 ts0 (nothing before) l p h = ap (λ (a : Position). end a ∷ []) (here before l p h)
only_one before0 rest0 ts0 (between_words before b rest ts g more) l p h =
    by (byte_of b) (only_one (before ++ (b ∷ [])) rest ts more (line_after l b) (p + 1) (behind_byte before b l p h))
  where
    on : (m : Mode) → passed (mode_behind before) b ≡ Some m → mode_behind (before ++ (b ∷ [])) ≡ m → ts ≡ shown (between (mode_behind (before ++ (b ∷ [])))) (p + 1) (line_after l b) rest → ts ≡ shown (between (mode_behind before)) p l (b ∷ rest)
    on m e q t = t ∙ ap (λ (x : Mode). shown (between x) (p + 1) (line_after l b) rest) q ∙ sym (ap (between_on p l b rest) e)

    by : Byte b → ts ≡ shown (between (mode_behind (before ++ (b ∷ [])))) (p + 1) (line_after l b) rest → ts ≡ shown (between (mode_behind before)) p l (b ∷ rest)
    by (blank g n i j k) t = on Inside (gap_passed (line_begins before) b Inside i j) (ap (λ (x : Bool). cond x Fresh Inside) (begins_push before true b ∙ n)) t
    by (feed g n i j k) t = on Fresh (gap_passed (line_begins before) b Fresh i j) (ap (λ (x : Bool). cond x Fresh Inside) (begins_push before true b ∙ n)) t
    by (plain f n i j k) t = absurd (both_ways (is_gap b) f g)
only_one before0 rest0 ts0 (comment before b bs rest ts o a s more) l p h =
    let first = comment_passed (line_begins before) b o in
    let all = All-cons OfComment b bs first.1 a in
    let same : line_after l b ≡ l = ap (λ (t : Bool). l + cond t 1 0) first.1 ∙ (omega arith) in
    let long : p + 1 + length bs ≡ p + length (b ∷ bs) = omega arith in
    only_one (before ++ (b ∷ bs)) rest ts more l (p + 1 + length bs) (behind_bytes (b ∷ bs) before l p (p + 1 + length bs) long all h)
    ∙ ap (λ (x : Bool). shown (between (cond x Fresh Inside)) (p + 1 + length bs) l rest) (line_goes_on before b bs all)
    ∙ sym (ap (between_on p l b (bs ++ rest)) first.0 ∙ ap (λ (x : ℕ). shown (between Comment) (p + 1) x (bs ++ rest)) same ∙ comment_shown bs rest l (p + 1) (p + 1 + length bs) refl a s)
only_one before0 rest0 ts0 (word before b bs rest ts o w s more) l p h =
    let all = plain_bytes (b ∷ bs) w in
    let long : p + 1 + length bs ≡ p + length (b ∷ bs) = omega arith in
    ap (λ (x : List Seen). word_seen (b ∷ bs) (behind before) ∷ x)
    (only_one (before ++ (b ∷ bs)) rest ts more l (p + 1 + length bs) (behind_bytes (b ∷ bs) before l p (p + 1 + length bs) long all h)
    ∙ ap (λ (x : Bool). shown (between (cond x Fresh Inside)) (p + 1 + length bs) l rest) (line_goes_on before b bs all))
    ∙ ap (λ (a : Position). word_seen (b ∷ bs) a ∷ shown (between Inside) (p + 1 + length bs) l rest) (here before l p h)
    ∙ sym (ap (between_on p l b (bs ++ rest)) (word_passed (line_begins before) b o (byte_of b) (All-head OfWord b bs w))
    ∙ rest_shown bs rest (b ∷ []) (position l p) l (p + 1) (All-tail OfWord b bs w) s)

pub text_whole : (text : List ℕ) → Whole text (seen_in text)
text_whole text = record { parted = text_parted text; only = λ us t. only_one [] text us t 1 0 (record { line = refl; place = refl }) }
