use Rattle.std.proofs.Common.{Ok, rules}
use Rattle.reader.specs.Tables.{settings_of, blocks_at}
use Rattle.reader.proofs.SettingsLaw.{decided}
use Rattle.reader.proofs.tables.read_settings.Goals as goal

pub returns-clause-decided : goal.returns-clause-decided
unfolding settings_of blocks_at
returns-clause-decided c = decided c.args.capacities c.args.text.now (Ok (record { blocks = c.in_ok-blocks.blocks })) (search rules)
