use Rattle.std.proofs.Common.{List, ℕ, ◌<◌, subst, sym}
use Rattle.std.specs.Result.{OnOk}
use Rattle.script.specs.Appending.{Adds}
use Rattle.script.specs.Scripts.{script_of}
use Rattle.script_tree.specs.Processes.{proc_of}
use Rattle.journal_text.specs.Names.{named}
use Rattle.pcml_why.specs.Whys.{facts_of, process_text}
use Rattle.pcml_why.proofs.Sites.{variables-at}
use Rattle.pcml_why.proofs.text.Teller.push_site.Goals as goal

pub returns : goal.returns
returns c =
    let ps = (script_of c.args.self.now.script.now).processes in
    subst (λ (variables : List (List ℕ)). OnOk c.push_process.result (Adds c.args.out.now c.push_process.new.out (process_text (named (script_of c.args.self.now.script.now)) variables (facts_of ps c.args.self.now.state.now) c.args.rows c.args.self.now.sites.now c.args.thread c.args.site.now)))
    (variables-at proc_of c.processes-processes.result.now ps c.args.thread c.index-processes-thread.result c.processes-processes.ensures.value
    (subst (λ (n : ℕ). c.args.thread < n) (sym c.processes-processes.ensures.count) c.requires.process) c.index-processes-thread.is)
    c.push_process.ensures
