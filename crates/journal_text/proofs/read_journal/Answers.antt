use Rattle.std.proofs.Common.{◌≡◌, ◌≢◌, [], length, sym, ap, ◌∙◌, arith, rules, tests}
use Rattle.journal_text.specs.Names.{Declared}
use Rattle.journal_text.specs.Reading.{line_at}
use Rattle.journal_text.proofs.Journals.{goes_on, falls, breaks}
use Rattle.journal_text.proofs.read_journal.Goals as goal

pub returns-in_default-clause-fault : goal.returns-in_default-clause-fault
returns-in_default-clause-fault c =
    let s = c.args.script.now in
    let rest = c.loop-front.front.bytes.now in
    let more : rest ≢ [] = λ e. let none : length rest ≡ 0 = ap length e in grind (arith, tests) in
    let len : c.len.result ≡ length c.loop-front.commits.items = search rules in
    let stop = ap (λ (d : Declared). line_at d rest) (sym c.in_ok-names.ensures) ∙ c.in_default.ensures in
    rw len (breaks _ s.spelled c.args.bytes.now c.loop-front.commits.items rest c.loop-front.invariant more stop)

pub loop-front-smaller : goal.loop-front-smaller
loop-front-smaller c =
    let read = ap (λ (d : Declared). line_at d c.loop-front.front.bytes.now) (sym c.in_ok-names.ensures) ∙ c.in-Some.ensures in
    falls _ c.args.script.now.spelled c.loop-front.front.bytes.now _ c.line.new.self.bytes.now read

pub loop-front-preserved : goal.loop-front-preserved
loop-front-preserved c =
    let read = ap (λ (d : Declared). line_at d c.loop-front.front.bytes.now) (sym c.in_ok-names.ensures) ∙ c.in-Some.ensures in
    rw c.in_ok-push.ensures.items (goes_on _ c.args.script.now.spelled c.args.bytes.now c.loop-front.commits.items c.loop-front.front.bytes.now c.in-Some.commit c.line.new.self.bytes.now c.loop-front.invariant read)
