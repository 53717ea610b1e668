use Rattle.protocol_ledger.proofs.Sheets.{sheet_set_course}
use Rattle.protocol_ledger.proofs.sheet.Sheet.set_course.Goals as goal

pub returns-clause-written : goal.returns-clause-written
returns-clause-written c = sheet_set_course c.args.self.now c.args.thread c.course_place-at.result c.pack_course.result c.args.course c.requires.thread c.course_place-at.ensures.value c.pack_course.ensures
