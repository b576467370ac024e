-- A group book while it is filled: what keeps it as it should be, and that a group pushed literal by literal is the whole group.
use Rattle.std.proofs.Common.{◌≡◌, ℕ, ◌+◌, ◌-◌, ◌<◌, ◌≤◌, Bool, true, false, cond, ◌&&◌, ltb, leb, List, [], ◌∷◌, ◌++◌, map, length, take, replicate, ℤ, pos, negsuc, nat_abs, Some, None, Ok, Err, fold, Option, sym, refl, ap, ◌∙◌, subst, inl, inr, arith}
use mathlib.Core.Bool.{false≢true}
use Rattle.std.specs.List.{list_all}
use Rattle.std.proofs.lemmas.List.{append-nil, append_assoc, length-append, length_push, get_or_push, take_at, take_all, take_more, map_push}
use Rattle.std.proofs.lemmas.Bool.{cases_Bool, and_parts, and_from, le-leb, leb-true, lt-ltb, ltb-false, cond_both, cond-true, cond-false}
use Rattle.std.proofs.lemmas.Bool.Decides.{nat_tests}
use Rattle.rules.specs.Literals.{var, in_range}
use Rattle.rules.specs.Books.{Group, rising, group_fits}
use Rattle.rules.specs.Rows.{words_of, spelled}
use Rattle.rules.specs.RowBuffers.{Content, content}
use Rattle.rules.specs.RowBuffers as B
use Rattle.rules.specs.Drafts.{unless, Reply, reply}
use Rattle.rules.specs.GroupRows.{as_row, last_word, as_group, is_limit, group_row_fits, draft_fits}
use Rattle.rules.specs.declared.refusal.Refusal.{Refusal}
use Rattle.rules.specs.declared.refusal.Refusal.TheVariants.{NoVariable, NoRoom, NotRising}
use Rattle.rules.specs.declared.groups.GroupBook.{GroupBook}
use Rattle.rules.specs.GroupFilling.{Filling, raised, groups_of, all_words, writing, clean, faulted, extended, written, risen, fallen, pushed, no_place, ending, group_of, settled, answer_to}
use Rattle.rules.proofs.RowLaws.{pass_weaker, pass_push}
use Rattle.rules.proofs.RowBuffers.{pushed_both}
use Rattle.rules.proofs.DraftLaws.{reply_ok, whole_rule}

abbrev parts : ℕ → ℕ → List Group → List ℤ → ℕ → Option Refusal → Filling
parts v s gs d k f = record { variables = v; size = s; groups = gs; draft = d; last = k; fault = f }

-- fillings with the same parts are the same
pub same_parts : {v v' s s' : ℕ} {gs gs' : List Group} {d d' : List ℤ} {k k' : ℕ} {f f' : Option Refusal}
    → v ≡ v' → s ≡ s' → gs ≡ gs' → d ≡ d' → k ≡ k' → f ≡ f' → parts v s gs d k f ≡ parts v' s' gs' d' k' f'
same_parts a b c e g h = cc

-- A GROUP AS A ROW

abbrev group : ℕ → List ℤ → Group
group m ls = record { most = m; literals = ls }

row_last : (G : Group) → last_word (as_row G) ≡ pos (G.most + 1)
row_last G = get_or_push G.literals (pos (G.most + 1)) (pos 0) (length (as_row G) - 1) (omega (arith, length_push G.literals (pos (G.most + 1))))

-- a group's row gives the group
pub row_group : (G : Group) → as_group (as_row G) ≡ G
row_group G =
    let row = as_row G in
    let w = pos (G.most + 1) in
    let front = take_at G.literals (w ∷ []) (length row - 1) (omega (arith, length_push G.literals w)) in
    let limit : nat_abs w - 1 ≡ G.most = omega arith in
    ap (λ x. group (nat_abs x - 1) (take (length row - 1) row)) (row_last G) ∙ ap (λ x. group x (take (length row - 1) row)) limit ∙ ap (group G.most) front

limit_word : (w : ℤ) → is_limit w ≡ true → pos (nat_abs w - 1 + 1) ≡ w
limit_word (pos k) h = let p = leb-true 1 k h in ap pos (omega arith)
limit_word (negsuc k) h = absurd (false≢true h)

-- a row that ends in a limit is that of its group
pub group_row : (row : List ℤ) → is_limit (last_word row) ≡ true → as_row (as_group row) ≡ row
group_row [] h = absurd (false≢true h)
group_row (x ∷ xs) h =
    let row = x ∷ xs in
    let i = length row - 1 in
    ap (λ w. take i row ++ (w ∷ [])) (limit_word (last_word row) h) ∙ sym (take_more row i (pos 0) (omega arith)) ∙ take_all (i + 1) row (omega arith)

pub group_rows : (n : ℕ) (rs : List (List ℤ)) → list_all (group_row_fits n) rs ≡ true → map as_row (map as_group rs) ≡ rs
group_rows n [] h = refl
group_rows n (row ∷ rs) h =
    let q = and_parts (group_row_fits n row) (list_all (group_row_fits n) rs) h in
    let e = group_row row (and_parts (is_limit (last_word row)) (group_fits n (as_group row)) q.0).0 in
    let i = group_rows n rs q.1 in
    cc

-- THE LITERALS OF A GROUP

rising_push : (k last : ℕ) (ls : List ℤ) (l : ℤ) → k ≤ last → rising k ls ≡ true → list_all (λ x. leb (var x) last) ls ≡ true → last < var l → rising k (ls ++ (l ∷ [])) ≡ true
rising_push k last [] l h r a e = and_from (ltb k (var l)) true (lt-ltb k (var l) (omega arith)) refl
rising_push k last (x ∷ ls) l h r a e =
    let q = and_parts (ltb k (var x)) (rising (var x) ls) r in
    let p = and_parts (leb (var x) last) (list_all (λ y. leb (var y) last) ls) a in
    and_from (ltb k (var x)) (rising (var x) (ls ++ (l ∷ []))) q.0 (rising_push (var x) last ls l (leb-true (var x) last p.0) q.1 p.1 e)

all_below : (k k' : ℕ) (ls : List ℤ) → k ≤ k' → list_all (λ x. leb (var x) k) ls ≡ true → list_all (λ x. leb (var x) k') ls ≡ true
all_below k k' ls h = pass_weaker (λ x. leb (var x) k) (λ x. leb (var x) k') (λ x e. let b = leb-true (var x) k e in le-leb (var x) k' (omega arith)) ls

abbrev Drafted : ℕ → ℕ → List ℤ → Type 0
Drafted n last ls = (list_all (in_range n) ls ≡ true) × (rising 0 ls ≡ true) × (list_all (λ x. leb (var x) last) ls ≡ true)

draft_parts : (n last : ℕ) (ls : List ℤ) → draft_fits n last ls ≡ true → Drafted n last ls
draft_parts n last ls h =
    let q = and_parts (list_all (in_range n) ls) (rising 0 ls && list_all (λ x. leb (var x) last) ls) h in
    let p = and_parts (rising 0 ls) (list_all (λ x. leb (var x) last) ls) q.1 in
    (q.0, p.0, p.1)

draft_from : (n last : ℕ) (ls : List ℤ) → Drafted n last ls → draft_fits n last ls ≡ true
draft_from n last ls d =
    and_from (list_all (in_range n) ls) (rising 0 ls && list_all (λ x. leb (var x) last) ls) d.0 (and_from (rising 0 ls) (list_all (λ x. leb (var x) last) ls) d.1 d.2)

-- the last variable may be taken for a higher one
draft_raised : (n last k : ℕ) (ls : List ℤ) → last ≤ k → draft_fits n last ls ≡ true → draft_fits n k ls ≡ true
draft_raised n last k ls h d = let p = draft_parts n last ls d in draft_from n k ls (p.0, p.1, all_below last k ls h p.2)

-- a literal that rises joins the others
draft_push : (n last : ℕ) (ls : List ℤ) (l : ℤ) → draft_fits n last ls ≡ true → in_range n l ≡ true → last < var l → draft_fits n (var l) (ls ++ (l ∷ [])) ≡ true
draft_push n last ls l d r e =
    let p = draft_parts n last ls d in
    draft_from n (var l) (ls ++ (l ∷ [])) (
      pass_push (in_range n) ls l p.0 r,
      rising_push 0 last ls l (omega arith) p.1 p.2 e,
      pass_push (λ x. leb (var x) (var l)) ls l (all_below last (var l) ls (omega arith) p.2) (le-leb (var l) (var l) (omega arith)),
    )

-- with a limit behind them the literals are a row of the book
draft_row : (n last m : ℕ) (ls : List ℤ) → draft_fits n last ls ≡ true → group_row_fits n (as_row (group m ls)) ≡ true
draft_row n last m ls d =
    let row = as_row (group m ls) in
    let p = draft_parts n last ls d in
    and_from (is_limit (last_word row)) (group_fits n (as_group row))
    (subst (λ w. is_limit w ≡ true) (sym (row_last (group m ls))) (le-leb 1 (m + 1) (omega arith)))
    (subst (λ G. group_fits n G ≡ true) (sym (row_group (group m ls))) (and_from (list_all (in_range n) ls) (rising 0 ls) p.0 p.1))

-- A BOOK

-- what a book keeps of its rows, where the last variable that rose is this one
abbrev pub Kept : ℕ → Content → Type 0
Kept last b = (list_all (group_row_fits b.variables) b.standing ≡ true) × (unless b.fault (draft_fits b.variables last) b.draft ≡ true)

-- the last variable that rose may be taken for a higher one
pub kept_raised : (last k : ℕ) (b : Content) → last ≤ k → Kept last b → Kept k b
kept_raised last k b h kept = (kept.0, by b.fault kept.1)
  where
    by : (f : Option Refusal) → unless f (draft_fits b.variables last) b.draft ≡ true → unless f (draft_fits b.variables k) b.draft ≡ true
    by None d = draft_raised b.variables last k b.draft h d
    by (Some r) d = refl

-- so it may for a book of groups
pub book_raised : (b : GroupBook) (k : ℕ) → b.last ≤ k → Kept k (content b.buffer)
book_raised b k h = kept_raised b.last k (content b.buffer) h (b.fit, b.drafted)

-- the words that the rows take, and the words of the book, by its groups
pub groups_words : (b : Content) → list_all (group_row_fits b.variables) b.standing ≡ true → words_of (map as_row (map as_group b.standing)) ≡ words_of b.standing
groups_words b h = ap words_of (group_rows b.variables b.standing h)

pub groups_spelled : (b : Content) (last : ℕ) → list_all (group_row_fits b.variables) b.standing ≡ true → B.all_words b ≡ all_words (groups_of b last)
groups_spelled b last h = ap (λ rs. spelled rs ++ (b.draft ++ replicate (b.size - (words_of rs + length b.draft)) (pos 0))) (sym (group_rows b.variables b.standing h))

-- whether there is a word for the limit of the group that is being written, and one for the 0
pub groups_full : (b : Content) (last : ℕ) → list_all (group_row_fits b.variables) b.standing ≡ true → ltb (B.free b) 2 ≡ no_place (groups_of b last) (length b.draft)
groups_full b last h = under b.size (words_of b.standing + length b.draft) ∙ ap (λ k. leb b.size (k + length b.draft + 1)) (sym (groups_words b h))
  where
    under : (s n : ℕ) → ltb (s - n) 2 ≡ leb s (n + 1)
    under s n = grind (arith, nat_tests)

-- a literal that rises, as a word of the rows
pub kept_pushed : (last : ℕ) (b : Content) (l : ℤ) → Kept last b → in_range b.variables l ≡ true → last < var l → Kept (var l) (B.pushed b l)
kept_pushed last b l h r e =
    let fits = λ (k : ℕ). draft_fits b.variables k in
    pushed_both b l (Kept (var l)) (λ x f. (h.0, subst (λ k. unless k (fits (var l)) b.draft ≡ true) (sym f) refl))
    (λ f. (
      h.0,
      subst (λ k. unless k (fits (var l)) (b.draft ++ (l ∷ [])) ≡ true) (sym f)
          (draft_push b.variables last b.draft l (subst (λ k. unless k (fits last) b.draft ≡ true) f h.1) r e),
    ))
    (h.0, refl)

pub group_pushed : (last : ℕ) (b : Content) (l : ℤ) → Kept last b → in_range b.variables l ≡ true → last < var l → groups_of (B.pushed b l) (var l) ≡ pushed (groups_of b last) l
group_pushed last b l h r e =
    let old = groups_of b last in
    by b.fault
    ∙ sym (cond-true (ltb last (var l)) (risen old l b.fault) (fallen old b.fault) (lt-ltb last (var l) e))
    ∙ sym (cond-true (in_range b.variables l) (cond (ltb last (var l)) (risen old l b.fault) (fallen old b.fault)) (faulted old NoVariable) r)
  where
    by : (f : Option Refusal) → groups_of (B.noted b l f) (var l) ≡ risen (groups_of b last) l f
    by (Some x) = refl
    by None =
        let more = raised (groups_of b last) l in
        let n = length b.draft in
        let words = groups_words b h.0 in
        cond_both (ltb (words_of b.standing + n) b.size) (B.writing b (b.draft ++ (l ∷ [])) b.fault) (B.writing b b.draft (Some NoRoom)) (λ d. groups_of d (var l) ≡ written more l)
        (λ t. sym (cond-true _ (extended more l) (faulted more NoRoom) (ap (λ k. ltb (k + n) b.size) words ∙ t)))
        (λ t. sym (cond-false _ (extended more l) (faulted more NoRoom) (ap (λ k. ltb (k + n) b.size) words ∙ t)))

-- with its limit m behind it, a group that is taken joins the book
module _ (b : Content) (last m : ℕ) (kept : Kept last b) (full : Bool) (is : full ≡ no_place (groups_of b last) (length b.draft)) (ok : reply b.fault full ≡ Ok tt) where
  abbrev limited : Content
  limited = B.pushed b (pos (m + 1))

  fine : b.fault ≡ None
  fine = (reply_ok b.fault full ok).0

  room : 1 < B.free b
  room = let p = ltb-false (B.free b) 2 (groups_full b last kept.0 ∙ sym is ∙ (reply_ok b.fault full ok).1) in omega arith

  limited_row : limited ≡ B.writing b (as_row (group m b.draft)) b.fault
  limited_row =
      let more = B.writing b (as_row (group m b.draft)) b.fault in
      ap (B.noted b (pos (m + 1))) fine ∙ cond-true _ more (B.writing b b.draft (Some NoRoom)) (lt-ltb (words_of b.standing + length b.draft) b.size (omega (arith, room)))

  pub limit_room : 0 < B.free limited
  limit_room = subst (λ d. 0 < B.free d) (sym limited_row) (omega (arith, room, length_push b.draft (pos (m + 1))))

  pub kept_ended : Kept 0 (B.joined limited)
  kept_ended =
      let draft = subst (λ f. unless f (draft_fits b.variables last) b.draft ≡ true) fine kept.1 in
      subst (λ d. Kept 0 (B.joined d)) (sym limited_row) (
        pass_push (group_row_fits b.variables) b.standing (as_row (group m b.draft)) kept.0 (draft_row b.variables last m b.draft draft),
        subst (λ f. unless f (draft_fits b.variables 0) [] ≡ true) (sym fine) refl,
      )

  pub group_ended : groups_of (B.joined limited) 0 ≡ settled (groups_of b last) (group m b.draft) (Ok tt)
  group_ended =
      let joins = map_push as_group b.standing (as_row (group m b.draft)) ∙ ap (λ G. map as_group b.standing ++ (G ∷ [])) (row_group (group m b.draft)) in
      let f = fine in
      ap (λ d. groups_of (B.joined d) 0) limited_row ∙ (cc)

-- A GROUP LITERAL BY LITERAL

module _ (k : ℕ) where
  -- what a group with the limit k comes to: the reply, and the book that it leaves
  abbrev refused : Filling → Refusal → Reply × Filling
  refused b r = (Err r, clean b)

  -- by all its literals C; the refusal that it has earned; whether the literals ahead are in range, and rise; and whether the book is full for it
  abbrev comes : Filling → List ℤ → Option Refusal → Bool → Bool → Bool → Reply × Filling
  comes b C (Some NoVariable) inside rises full = refused b NoVariable
  comes b C (Some NotRising) inside rises full = cond inside (refused b NotRising) (refused b NoVariable)
  comes b C (Some NoRoom) inside rises full = cond inside (cond rises (refused b NoRoom) (refused b NotRising)) (refused b NoVariable)
  comes b C None inside rises full = cond inside (cond rises (cond full (refused b NoRoom) (Ok tt, settled b (group_of k C) (Ok tt))) (refused b NotRising)) (refused b NoVariable)

  abbrev outcome : Filling → List ℤ → Reply × Filling
  outcome b ls = comes b (b.draft ++ ls) b.fault (list_all (in_range b.variables) ls) (rising b.last ls) (no_place b (length (b.draft ++ ls)))

  -- one literal more leaves it as it was
  one_pushed : (b : Filling) (l : ℤ) (ls : List ℤ) → outcome (pushed b l) ls ≡ outcome b (l ∷ ls)
  one_pushed b l ls = by b.fault (in_range b.variables l) (ltb b.last (var l))
    where
      wrote : let b = writing b b.draft (var l) None in let C = b.draft ++ (l ∷ ls) in
          outcome (written b l) ls ≡ comes b C None (list_all (in_range b.variables) ls) (rising (var l) ls) (no_place b (length C))
      wrote =
          let b = writing b b.draft (var l) None in
          let C = b.draft ++ (l ∷ ls) in
          let at = words_of (map as_row b.groups) + length b.draft in
          let inside = list_all (in_range b.variables) ls in
          let rises = rising (var l) ls in
          elim (cases_Bool (ltb at b.size)) [
            | inl t ↦
                ap (λ k. outcome k ls) (cond-true (ltb at b.size) (extended b l) (faulted b NoRoom) t) ∙ ap (λ C. comes b C None inside rises (no_place b (length C))) (append_assoc b.draft (l ∷ []) ls)
            | inr t ↦
                let q = ltb-false at b.size t in
                let full : no_place b (length C) ≡ true = le-leb b.size (words_of (map as_row b.groups) + length C + 1) (omega (arith, length-append b.draft (l ∷ ls))) in
                ap (λ k. outcome k ls) (cond-false (ltb at b.size) (extended b l) (faulted b NoRoom) t) ∙ sym (ap (comes b C None inside rises) full)
          ]

      by : (f : Option Refusal) (i r : Bool) → let b = writing b b.draft b.last f in let C = b.draft ++ (l ∷ ls) in
          outcome (cond i (cond r (risen b l f) (fallen b f)) (faulted b NoVariable)) ls ≡ comes b C f (i && list_all (in_range b.variables) ls) (r && rising (var l) ls) (no_place b (length C))
      by (Some NoVariable) false r = refl
      by (Some NoVariable) true false = refl
      by (Some NoVariable) true true = refl
      by (Some NotRising) false r = refl
      by (Some NotRising) true false = refl
      by (Some NotRising) true true = refl
      by (Some NoRoom) false r = refl
      by (Some NoRoom) true false = refl
      by (Some NoRoom) true true = refl
      by None false r = refl
      by None true false = refl
      by None true true = wrote

  -- at the end
  outcome_ended : (b : Filling) → outcome b [] ≡ (ending b, settled b (group_of k b.draft) (ending b))
  outcome_ended b = ap (λ C. comes b C b.fault true true (no_place b (length C))) (append-nil b.draft) ∙ by b.draft b.fault (no_place b (length b.draft))
    where
      by : (C : List ℤ) (f : Option Refusal) (full : Bool) → comes b C f true true full ≡ (reply f full, settled b (group_of k C) (reply f full))
      by C (Some NoVariable) full = refl
      by C (Some NotRising) full = refl
      by C (Some NoRoom) full = refl
      by C None true = refl
      by C None false = refl

  -- at the start
  outcome_whole : (b : Filling) (ls : List ℤ) → outcome (clean b) ls ≡ (answer_to b ls, settled b (group_of k ls) (answer_to b ls))
  outcome_whole b ls = by (list_all (in_range b.variables) ls) (rising 0 ls) (no_place b (length ls))
    where
      by : (i r p : Bool) → let a = cond i (cond r (cond p (Err NoRoom) (Ok tt)) (Err NotRising)) (Err NoVariable) in comes (clean b) ls None i r p ≡ (a, settled b (group_of k ls) a)
      by false r p = refl
      by true false p = refl
      by true true false = refl
      by true true true = refl

  -- a group pushed literal by literal and ended is answered as a whole, and leaves what the whole leaves
  pub pushed_whole : (b : Filling) (ls : List ℤ) (e : Filling) → e ≡ fold pushed (clean b) ls → (r : Reply) → r ≡ ending e → (x : Filling) → x ≡ settled e (group_of k e.draft) r
      → (r ≡ answer_to b ls) × (x ≡ settled b (group_of k ls) r)
  pushed_whole b ls = whole_rule pushed outcome one_pushed ending (λ e. settled e (group_of k e.draft)) outcome_ended (clean b) ls (answer_to b ls) (settled b (group_of k ls)) (outcome_whole b ls)
