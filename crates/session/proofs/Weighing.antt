-- What the members of a trail weigh, one entry after another.
use Rattle.std.proofs.Common.{◌≡◌, ℕ, ◌+◌, Bool, true, false, List, [], ◌∷◌, ◌++◌, length, ℤ, sym, refl, ap, ◌∙◌, add-one}
use Rattle.std.proofs.lemmas.List.Sums.{fold_push}
use Rattle.std.proofs.lemmas.Bool.{cond-true, cond-false}
use Rattle.weights.specs.Weighing.{total_weight}
use Rattle.theory.specs.Weighing.{Member}
use Rattle.theory.specs.Trail.{Entry, Trail, literal, on}
use Rattle.theory.specs.Chunks.{standing, in_chunk, members, chunk}
use Rattle.theory.proofs.Trails.{on_top, on_below}
use Rattle.session.specs.Words.{word_at, trail_at}
use Rattle.session.specs.Decode.{entry_at, trail_of, marked, Marked}
use Rattle.session.proofs.Decode.{literal_of, length_trail}
use Rattle.session.proofs.Marking.{marked_is}

-- an entry as a member, with how many are older
abbrev as_member : Entry → ℕ → Member
as_member e place = record { literal = literal e; standing = standing e; place = place }

-- the member at a place
abbrev pub member_at : ℕ → List ℤ → ℕ → Member
member_at n ws p = record { literal = word_at ws (trail_at n p); standing = standing (entry_at n ws p); place = p }

same_member : (n : ℕ) (ws : List ℤ) (p : ℕ) → as_member (entry_at n ws p) (length (trail_of n p ws)) ≡ member_at n ws p
same_member n ws p = λ i. record { literal = literal_of n ws (word_at ws (trail_at n p)) i; standing = standing (entry_at n ws p); place = length_trail n p ws i }

members_cong : (f g : ℤ → Bool) (t : Trail) → ((l : ℤ) → on t l ≡ true → f l ≡ g l) → members f t ≡ members g t
members_cong f g [] h = refl
members_cong f g (e ∷ t) h = rw (h (literal e) (on_top e t), members_cong f g t (λ l o. h l (on_below e t l o)))

-- the marked members are those of the marked chunk
pub chunk_marked : (n : ℕ) (t : Trail) (d : ℤ) (ws : List ℤ) → Marked n t (in_chunk d t) ws → members (marked n ws) t ≡ chunk t d
chunk_marked n t d ws m = members_cong (marked n ws) (in_chunk d t) t (marked_is n t (in_chunk d t) ws m)

module _ {W : Type 0} (nothing : W) (plus : W → W → W) (weight : Member → W) where
  module _ (n : ℕ) (ws : List ℤ) (test : ℤ → Bool) (p : ℕ) where
    here : test (word_at ws (trail_at n p)) ≡ test (literal (entry_at n ws p))
    here = ap test (sym (literal_of n ws (word_at ws (trail_at n p))))

    pub total_in : test (word_at ws (trail_at n p)) ≡ true
        → total_weight nothing plus weight (members test (trail_of n (p + 1) ws)) ≡ plus (total_weight nothing plus weight (members test (trail_of n p ws))) (weight (member_at n ws p))
    total_in h =
        let e = entry_at n ws p in
        let t = trail_of n p ws in
        let m = as_member e (length t) in
        ap (λ q. total_weight nothing plus weight (members test (trail_of n q ws))) (add-one p)
        ∙ ap (total_weight nothing plus weight) (cond-true (test (literal e)) (members test t ++ (m ∷ [])) (members test t) (sym here ∙ h))
        ∙ fold_push (λ sum x. plus sum (weight x)) nothing (members test t) m ∙ ap (λ x. plus (total_weight nothing plus weight (members test t)) (weight x)) (same_member n ws p)

    pub total_out : test (word_at ws (trail_at n p)) ≡ false
        → total_weight nothing plus weight (members test (trail_of n (p + 1) ws)) ≡ total_weight nothing plus weight (members test (trail_of n p ws))
    total_out h =
        let e = entry_at n ws p in
        let t = trail_of n p ws in
        ap (λ q. total_weight nothing plus weight (members test (trail_of n q ws))) (add-one p)
        ∙ ap (total_weight nothing plus weight) (cond-false (test (literal e)) (members test t ++ (as_member e (length t) ∷ [])) (members test t) (sym here ∙ h))
