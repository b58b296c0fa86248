-- An identity is made of its plain fields: the bounds in its type add nothing to them.
use Rattle.std.proofs.Common.{◌≡◌, ◌^◌, ◌≤◌, ℕ, Some, None, Option, refl, ap, ◌∙◌, arith}
use native.Mathlib.Bridge.{le_prop}
use native.Mathlib.Decide.{dec_le, dec_lt}
use Rattle.identity.specs.Chains.{provided}
use Rattle.identity.specs.Numbers.{nf, session}
use Rattle.identity.specs.Slices.{snssai}
use Rattle.identity.specs.Subscribers.{supi}
use Rattle.identity.specs.declared.number.NfNumber.{NfNumber}
use Rattle.identity.specs.declared.number.SessionId.{SessionId}
use Rattle.identity.specs.declared.snssai.Snssai.{Snssai}
use Rattle.identity.specs.declared.supi.Supi.{Supi}

-- where the fact holds, it does not matter by which proof
pub provided_yes : {P A : Type 0} → ((p q : P) → p ≡ q) → (d : Dec P) (make : P → Option A) (h : P) → provided d make ≡ make h
provided_yes prop (yes p) make h = ap make (prop p h)
provided_yes prop (no n) make h = absurd (n h)

pub provided_no : {P A : Type 0} (d : Dec P) (make : P → Option A) → (P → ⊥) → provided d make ≡ None
provided_no (yes p) make n = absurd (n p)
provided_no (no q) make n = refl

pub slice_made : (s : Snssai) → snssai s.sst s.sd ≡ Some s
unfolding snssai
slice_made s = provided_yes le_prop (dec_lt s.sd 16777216) (λ h. Some (record { sst = s.sst; sd = s.sd; bits = h })) s.bits

pub slice_none : (type mark : ℕ) → 16777216 ≤ mark → snssai type mark ≡ None
unfolding snssai
slice_none type mark l = provided_no (dec_lt mark 16777216) _ (λ h. omega arith)

pub ue_made : (s : Supi) → supi s.digits s.value ≡ Some s
unfolding supi
ue_made s =
    provided_yes le_prop (dec_le 5 s.digits) _ s.least ∙ provided_yes le_prop (dec_le s.digits 15) _ s.most
    ∙ provided_yes le_prop (dec_lt s.value (10 ^ s.digits)) (λ f. Some (record { digits = s.digits; value = s.value; least = s.least; most = s.most; fits = f })) s.fits

pub nf_made : (k : NfNumber) → nf k.number ≡ Some k
unfolding nf
nf_made k = provided_yes le_prop (dec_lt k.number 65536) (λ h. Some (record { number = k.number; range = h })) k.range

pub session_made : (k : SessionId) → session k.number ≡ Some k
unfolding session
session_made k = provided_yes le_prop (dec_lt k.number 256) (λ h. Some (record { number = k.number; range = h })) k.range
