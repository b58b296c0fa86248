-- The long form of a slice reads as the same slice.
use Rattle.std.proofs.Common.{◌≡◌, ℕ, ◌+◌, ◌*◌, ◌/◌, ◌%◌, ◌<◌, Some, arith}
use Rattle.std.proofs.lemmas.Bool.Decides.{nat_tests}
use Rattle.identity.specs.Slices.{nibble_of, octet_of, slice_of}
use Rattle.identity.specs.declared.snssai.Snssai.{Snssai}
use Rattle.identity.proofs.Made.{slice_made}
use Rattle.writer.specs.Hexes.{hex_of, long_text}

nibble_back : (n : ℕ) → n < 16 → nibble_of (hex_of n) ≡ Some n
nibble_back n h = grind (arith, nat_tests)

octet_back : (n : ℕ) → n < 256 → octet_of (hex_of (n / 16)) (hex_of (n % 16)) ≡ Some n
octet_back n h = grind (arith, nibble_back (n / 16) (omega arith), nibble_back (n % 16) (omega arith))

pub long_back : (s : Snssai) → s.sst < 256 → slice_of (long_text s) ≡ Some s
long_back s small =
    let bits = s.bits in
    let whole : s.sd / 65536 * 65536 + s.sd / 256 % 256 * 256 + s.sd % 256 ≡ s.sd = omega arith in
    rw (octet_back s.sst small, octet_back (s.sd / 65536) (omega arith), octet_back (s.sd / 256 % 256) (omega arith), octet_back (s.sd % 256) (omega arith), whole) (slice_made s)
