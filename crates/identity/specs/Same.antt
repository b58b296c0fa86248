-- UEs are equal when their numbers are.
use Rattle.std.specs.Prelude.{Bool, ◌&&◌, ◌==◌}
use Rattle.identity.specs.declared.supi.Supi.{Supi}

-- as many digits, and the same: leading zeros count
abbrev pub same_ue : Supi → Supi → Bool
same_ue a b = a.digits == b.digits && a.value == b.value
