-- The words that a line may have, by its key.
use Rattle.std.specs.Prelude.{ℕ, List, codes, Option}
use Rattle.identity.specs.Words.{word, no_other}
use Rattle.reader.specs.declared.words.Operation.{Operation}
use Rattle.reader.specs.declared.words.Operation.TheVariants.{Ue, Pdu}
use Rattle.reader.specs.declared.words.UeFlag.{UeFlag}
use Rattle.reader.specs.declared.words.UeFlag.TheVariants as ue
use Rattle.reader.specs.declared.words.PduFlag.{PduFlag}
use Rattle.reader.specs.declared.words.PduFlag.TheVariants as pdu
use Rattle.reader.specs.declared.words.Counted.{Counted}
use Rattle.reader.specs.declared.words.Counted.TheVariants.{ThreeGpp, NonThreeGpp, Both}

abbrev pub operation_of : List ℕ → Option Operation
operation_of = word (codes "ue") Ue (word (codes "pdu") Pdu no_other)

abbrev pub ue_flag_of : List ℕ → Option UeFlag
ue_flag_of = word (codes "increase") ue.Increase (word (codes "decrease") ue.Decrease no_other)

abbrev pub pdu_flag_of : List ℕ → Option PduFlag
pdu_flag_of =
    word (codes "increase") pdu.Increase (word (codes "decrease") pdu.Decrease (word (codes "update") pdu.Update no_other))

abbrev pub counted_of : List ℕ → Option Counted
counted_of = word (codes "3gpp") ThreeGpp (word (codes "non-3gpp") NonThreeGpp (word (codes "both") Both no_other))
