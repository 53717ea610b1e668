-- In a lawful ledger the offer that a committed row chose is there.
use Rattle.protocol_ledger.specs.Sheets.{table_of}
use Rattle.protocol_ledger.proofs.Chosen.{chosen, chosen_names}
use Rattle.protocol_ledger.proofs.sheet.Sheet.commit_named.Goals as goal

pub known_offer-own-requires : goal.known_offer-own-requires
known_offer-own-requires c = chosen (table_of c.args.self.now) c.args.row c.args.joined c.requires.lawful c.requires.joined

pub commit_by-requires : goal.commit_by-requires
commit_by-requires c =
    chosen_names (table_of c.args.self.now) c.args.row c.args.joined c.known_offer-own.result c.requires.lawful c.requires.joined c.known_offer-own.ensures
