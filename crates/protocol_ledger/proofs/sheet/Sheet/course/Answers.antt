use Rattle.std.proofs.Common.{◌<◌, cond, unwrap_or, sym, ap, ◌∙◌, arith}
use Rattle.std.proofs.lemmas.Bool.{lt-ltb}
use Rattle.protocol_values.specs.Words.{course_of}
use Rattle.protocol_values.specs.declared.Course.TheVariants.{Unstarted}
use Rattle.protocol_ledger.specs.Tables.{course_at}
use Rattle.protocol_ledger.proofs.Sheets.{sheet_course}
use Rattle.protocol_ledger.proofs.sheet.Sheet.course.Goals as goal

pub returns : goal.returns
unfolding course_at
returns c =
    let s = c.args.self.now in
    let below = c.if-from-self.false in
    let its : c.args.thread < s.threads = omega (arith, c.from.ensures, below) in
    c.unwrap_or.ensures
    ∙ (λ i. cond (sym (lt-ltb c.args.thread s.threads its) i) (unwrap_or ((c.unpack_course.ensures.value ∙ ap course_of (sheet_course s c.args.thread c.course_place-at.result c.index.result.now its c.course_place-at.ensures.value c.index.ensures)) i) Unstarted) Unstarted)
