-- The measure of a trail: how it changes with an undone chunk, and that it stays below (n + 1)^(n + 1).
use Rattle.std.proofs.Common.{ℕ, suc, ◌+◌, ◌-◌, ◌*◌, ◌^◌, ◌<◌, ◌≤◌, [], ◌∷◌, length, mul-le-mul_right, suc-mul, arith}
use native.Mathlib.Nat.{pow-le-pow_right, one-le-pow, pow-succ'}
use Rattle.std.proofs.lemmas.Bool.{cond_both}
use Rattle.theory.specs.Trail.{Trail, WellFormed}
use Rattle.theory.proofs.Levels.{level, decisions, entry_level, joins_rank, in_rank, without_rank, joins_level, entry_lowered, decisions_without, rank_level, level_without}
use Rattle.theory.proofs.Pigeonhole.{length_most}

-- The measure: each entry counts (n + 1)^(n − level).
abbrev pub worth : ℕ → ℕ → ℕ
worth n k = suc n ^ (n - k)

abbrev pub measure : ℕ → Trail → ℕ
measure n [] = 0
measure n (e ∷ t) = worth n (entry_level e (decisions t) (level t)) + measure n t

-- an undone chunk costs at most its worth for each entry; what is kept counts for as much or more
pub worth_falls : (n a b : ℕ) → a ≤ b → worth n b ≤ worth n a
worth_falls n a b h = let q : n - b ≤ n - a = omega arith in let z : 0 < suc n = omega arith in pow-le-pow_right z q

pub worth_positive : (n k : ℕ) → 1 ≤ worth n k
worth_positive n k = one-le-pow (n - k) (suc n) (omega arith)

pub measure_without : (n j : ℕ) → 0 < j → (t : Trail) → measure n t ≤ measure n (without_rank j t) + length t * worth n j
measure_without n j z [] = omega arith
measure_without n j z (e ∷ t) =
    let ih = measure_without n j z t in
    let s = suc-mul (length t) (worth n j) in
    cond_both (joins_rank j e (decisions t) (in_rank j t)) (without_rank j t) (e ∷ without_rank j t)
    (λ s. worth n (entry_level e (decisions t) (level t)) + measure n t ≤ measure n s + suc (length t) * worth n j)
    (λ b. let w = worth_falls n j (entry_level e (decisions t) (level t)) (joins_level j (in_rank j t) (level t) (rank_level j t) (decisions t) e b) in omega arith)
    (λ b.
    let r = entry_lowered j z (in_rank j t) (level t) (level (without_rank j t)) (level_without j z t) (decisions t) (decisions (without_rank j t)) (decisions_without j z t) e b in
    let w = worth_falls n (entry_level e (decisions (without_rank j t)) (level (without_rank j t))) (entry_level e (decisions t) (level t)) (omega arith) in
    omega arith)

measure_length : (n : ℕ) (t : Trail) → measure n t ≤ length t * suc n ^ n
measure_length n [] = omega arith
measure_length n (e ∷ t) =
    let a = measure_length n t in
    let b : worth n (entry_level e (decisions t) (level t)) ≤ suc n ^ n = let q : n - entry_level e (decisions t) (level t) ≤ n = omega arith in let z : 0 < suc n = omega arith in pow-le-pow_right z q in
    let c = suc-mul (length t) (suc n ^ n) in
    omega arith

pub measure_most : (n : ℕ) (t : Trail) → WellFormed n t → measure n t < suc n ^ suc n
measure_most n t w =
    let a = measure_length n t in
    let b = length_most n t w in
    let c = pow-succ' (suc n) n in
    let d = suc-mul n (suc n ^ n) in
    let e : 1 ≤ suc n ^ n = one-le-pow n (suc n) (omega arith) in
    let f : length t * suc n ^ n ≤ n * suc n ^ n = mul-le-mul_right (suc n ^ n) b in
    omega arith
