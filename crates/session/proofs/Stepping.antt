-- What a step undoes: a chunk has at most as many literals as there are variables.
use Rattle.std.proofs.Common.{ℕ, ◌≤◌, List, length, ℤ, arith}
use Rattle.theory.specs.Chunks.{in_chunk, chunk}
use Rattle.theory.proofs.Repairing.{members_kept}
use Rattle.session.specs.Decode.{trail_of, Coherent}
use Rattle.session.proofs.Decode.{length_trail}

pub chunk_most : (n L len : ℕ) (ws : List ℤ) → Coherent n L len ws → (d : ℤ) → length (chunk (trail_of n len ws) d) ≤ n
chunk_most n L len ws st d =
    let t = trail_of n len ws in
    let a = members_kept (in_chunk d t) t in
    let b = length_trail n len ws in
    let f = st.fits in
    omega arith
