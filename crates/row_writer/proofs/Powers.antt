-- Powers of ten within 128 bits.
use Rattle.std.proofs.Common.{ℕ, ◌^◌, ◌<◌, ◌≤◌, arith}
use Rattle.std.proofs.Math.Nat.{pow-le-pow_right, one-le-pow}

pub power_small : (digits : ℕ) → digits ≤ 38 → 10 ^ digits < 2 ^ 127
power_small digits le =
    let power : 10 ^ digits ≤ 10 ^ 38 = pow-le-pow_right (omega arith) le in
    omega arith

pub power_some : (digits : ℕ) → 1 ≤ 10 ^ digits
power_some digits = one-le-pow digits 10 (omega arith)
