use Rattle.std.proofs.Common.{◌≡◌, ℕ, ◌<◌, ap, map, subst, ◌∙◌}
use Rattle.script_tree.specs.Processes.{Proc, proc_of}
use Rattle.journal_replay.proofs.Telling.{holds-more}
use Rattle.journal_replay.specs.Replays.{thread_count}
use Rattle.journal_replay.specs.Runs.{config_of}
use Rattle.pcml_why_sites.specs.Stands.{standing_of}
use Rattle.pcml_why_sites.specs.Sites.{TellsFault, TellsSite}
use Rattle.pcml_why_sites.proofs.Standing.{process-at, stands_so}
use Rattle.pcml_why_sites.proofs.site.sites_of.Goals as goal

pub loop-thread-preserved : goal.loop-thread-preserved
loop-thread-preserved c =
    let t = c.loop-thread.thread in
    let commits = c.args.commits.now in
    let state = c.args.state.now in
    let end = c.end-end.result in
    let within : t < thread_count state = subst (λ (n : ℕ). t < n) c.threads-thread-end.ensures c.loop-thread-test.true in
    holds-more (TellsSite (map proc_of c.args.processes.now) commits state) t c.loop-thread.sites.items c.push.new.self.items
    (record { end = end; line = c.line.result; variables = c.variables.result; stand = c.in_ok-stand.stand; offers = c.open.result.0; nacks = c.open.result.1 })
    c.loop-thread.invariant
    (record {
      end = c.end-end.ensures;
      line = c.line.ensures;
      offers = c.open.ensures.told;
      stand = λ p is.
          let same : proc_of c.index-processes-thread.result ≡ p =
          ap proc_of c.index-processes-thread.is ∙ process-at proc_of c.args.processes.now t c.index-processes-thread.result p (subst (λ (n : ℕ). t < n) c.requires.processes within) is in
          stands_so (map proc_of c.args.processes.now) c.requires.stands.0 t commits state end c.variables.result.now c.in_ok-stand.stand p c.requires.stands.1 c.end-end.ensures c.variables.ensures is
          (subst (λ (q : Proc). TellsFault end (standing_of q t (config_of commits t)) c.in_ok-stand.stand) same c.in_ok-stand.ensures);
    })
    c.in_ok-push.ensures.items
