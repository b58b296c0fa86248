-- That a list ascends has one proof at most, so that a store may keep it as a ghost field.
use Rattle.std.proofs.Common.{Bool, List, [], ◌∷◌}
use Rattle.std.proofs.Math.Bool.{Bool-set}
use Rattle.std.specs.Coded.{×_prop, Unit-prop}
use Rattle.store.specs.declared.entry.Entry.{Entry}
use Rattle.store.specs.Maps.{Ascending, Leads}

module _ {K V : Type 0} (below : K → K → Bool) where
  leads_prop : (e : Entry K V) (es : List (Entry K V)) → IsProp (Leads below e es)
  leads_prop e [] = Unit-prop
  leads_prop e (f ∷ fs) = Bool-set _ _

  pub ascending_prop : (es : List (Entry K V)) → IsProp (Ascending below es)
  ascending_prop [] = Unit-prop
  ascending_prop (e ∷ es) = ×_prop (leads_prop e es) (ascending_prop es)
