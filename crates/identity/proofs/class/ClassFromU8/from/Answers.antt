use Rattle.std.proofs.Common.{◌≡◌, ℕ, ◌<◌, Bool, true, eqb, List, ◌++◌, length, get_or, replicate, refl, ap, ◌∙◌, zero-add, arith, rules}
use Rattle.std.specs.List.{enumerate_from, list_all}
use Rattle.std.proofs.lemmas.Bool.Decides.{nat_tests}
use Rattle.std.proofs.lemmas.List.Folds.{list_all_at}
use Rattle.std.proofs.lemmas.List.FromFn.{get_or-enumerate_from, length-enumerate_from}
use Rattle.identity.specs.Classes.{class_number, class_of}
use Rattle.identity.specs.declared.class.Class.{Class}
use Rattle.identity.specs.declared.class.Class.TheVariants.{Other, Digit, Letter}
use Rattle.identity.proofs.class.ClassFromU8.from.Goals as goal

-- an entry and its place: the entry is the class of the byte that the place is
abbrev right : ℕ × Class → Bool
right p = eqb (class_number p.1) (class_of p.0)

-- where each entry passes the test, which is computed, so does the one at k
rule : (xs : List Class) (k : ℕ) → list_all right (enumerate_from 0 xs) ≡ true → k < length xs → class_number (get_or xs k Other) ≡ class_of k
rule xs k t h =
    let at = get_or-enumerate_from 0 xs k (0, Other) h ∙ ap (λ n. (n, get_or xs k Other)) (zero-add k) in
    let passes = list_all_at right (enumerate_from 0 xs) k (0, Other) in
    let long = length-enumerate_from 0 xs in
    let same = ap right at in
    grind (arith, nat_tests)

table : List Class
table = replicate 48 Other ++ replicate 10 Digit ++ replicate 7 Other ++ replicate 6 Letter ++ replicate 185 Other

pub returns : goal.returns
unfolding table
returns c =
    let h : c.args.b < 256 = search rules in
    ap (λ k. class_number (get_or table k Other)) c.from.ensures ∙ rule table c.args.b refl h
