-- What a single store stands for.
use Rattle.std.specs.Prelude.{◌≤◌, Bool, List, length, Some, None, Option}
use Rattle.std.specs.Option.{option_to_list}
use Rattle.std.proofs.Common.{lit≤}
use Rattle.store.specs.declared.entry.Entry.{Entry}
use Rattle.store.specs.Maps.{Ascending}
use Rattle.own_store.specs.declared.single.Single.{Single}

-- no entry, or one
abbrev pub content : {K V : Type 0} → Single K V → List (Entry K V)
content s = option_to_list s.entry

module _ {K V : Type 0} where
  -- one entry ascends, in any order
  pub one_ascends : (below : K → K → Bool) (held : Option (Entry K V)) → Ascending below (option_to_list held)
  one_ascends below None = tt
  one_ascends below (Some e) = (tt, tt)

  pub one_at_most : (held : Option (Entry K V)) → length (option_to_list held) ≤ 1
  one_at_most None = lit≤ tt
  one_at_most (Some e) = lit≤ tt
