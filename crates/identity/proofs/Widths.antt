-- So many digits write a number below that power of ten.
use Rattle.std.proofs.Common.{◌≡◌, ℕ, suc, ◌+◌, ◌-◌, ◌*◌, ◌^◌, ◌<◌, ◌≤◌, true, false, List, [], ◌∷◌, length, Some, None, sym, ap, ◌∙◌, ⊎_elim, mul-le-mul_right, mul_assoc, arith}
use native.Mathlib.Nat.{pow-succ', pow-le-pow_right}
use Rattle.std.proofs.lemmas.Bool.{and_parts, cases_Bool}
use Rattle.std.proofs.lemmas.Bool.Decides.{nat_tests}
use Rattle.identity.specs.Decimals.{digit?, digits?, digits_of, value_after, value}
use Rattle.identity.specs.Subscribers.{supi, imsi_of}
use Rattle.identity.specs.declared.supi.Supi.{Supi}
use Rattle.identity.proofs.Made.{ue_made}

digit_small : (b : ℕ) → digit? b ≡ true → b - 48 ≤ 9
digit_small b e = grind (arith, nat_tests)

below_power : (n : ℕ) (bs : List ℕ) → digits? bs ≡ true → value_after n bs < (n + 1) * 10 ^ length bs
below_power n [] e = omega arith
below_power n (b ∷ bs) e =
    let p = and_parts (digit? b) (digits? bs) e in
    let small = digit_small b p.0 in
    let ih = below_power (n * 10 + (b - 48)) bs p.1 in
    let room : n * 10 + (b - 48) + 1 ≤ (n + 1) * 10 = omega arith in
    let wide = mul-le-mul_right (10 ^ length bs) room in
    let same : (n + 1) * 10 * 10 ^ length bs ≡ (n + 1) * 10 ^ suc (length bs) = mul_assoc (n + 1) 10 (10 ^ length bs) ∙ ap (λ k. (n + 1) * k) (sym (pow-succ' 10 (length bs))) in
    omega arith

pub value-fits : (bs : List ℕ) → digits? bs ≡ true → value bs < 10 ^ length bs
value-fits bs e = omega (arith, below_power 0 bs e)

pub value_most : (bs : List ℕ) → digits? bs ≡ true → length bs ≤ 15 → value bs ≤ 18446744073709551615
value_most bs e l = let w : 10 ^ length bs ≤ 10 ^ 15 = pow-le-pow_right (omega arith) l in omega (arith, value-fits bs e)

abbrev Most : ℕ
Most = 18446744073709551615

pub digits_read : (bs : List ℕ) (v : ℕ) → Some v ≡ digits_of Most bs → (digits? bs ≡ true) × (v ≡ value bs)
digits_read bs v e = grind (arith, nat_tests)

pub digits_missed : (bs : List ℕ) → None ≡ digits_of Most bs → length bs ≤ 15 → digits? bs ≡ false
digits_missed bs e l =
    ⊎_elim (λ t. let m = value_most bs t l in let z : ◌≡◌ {A = ℕ} 0 1 = grind (arith, nat_tests) in absurd (omega arith)) (λ f. f) (cases_Bool (digits? bs))

pub imsi_none : (bs : List ℕ) → digits? bs ≡ false → imsi_of bs ≡ None
imsi_none bs e = grind (arith, nat_tests)

pub imsi_some : (bs : List ℕ) (s : Supi) → 5 ≤ length bs → length bs ≤ 15 → digits? bs ≡ true → s.digits ≡ length bs → s.value ≡ value bs → Some s ≡ imsi_of bs
imsi_some bs s a b t d v =
    let whole : imsi_of bs ≡ supi (length bs) (value bs) = grind (arith, nat_tests) in
    let same : supi s.digits s.value ≡ supi (length bs) (value bs) = cc in
    sym (whole ∙ sym same ∙ ue_made s)
