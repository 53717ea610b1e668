-- Each commit of a run is a meeting: what its syncs offered they took, and it stays so.
use Rattle.std.proofs.Common.{◌≡◌, ℕ, List, [], ◌∷◌, ◌++◌, length, take, refl, sym, ap, ◌∙◌, append_assoc, subst, arith}
use Rattle.std.proofs.lemmas.List.{take_all, take_at}
use Rattle.std.proofs.lemmas.Option.{slice_get_within}
use Rattle.script_tree.specs.Processes.{Proc}
use Rattle.thread.specs.After.{Chosen}
use Rattle.protocol_values.specs.declared.Base.{Base}
use Rattle.protocol_values.specs.declared.Base.TheVariants.{Always, OnNack, OnEnd}
use Rattle.protocol_values.specs.declared.Cause.{Cause}
use Rattle.protocol_values.specs.declared.Cause.TheVariants as cause
use Rattle.protocol_values.specs.declared.Commit.{Commit}
use Rattle.protocol_values.specs.declared.Commit.TheVariants.{Pair, Alone}
use Rattle.protocol_values.specs.declared.Message.{Message}
use Rattle.protocol_values.specs.declared.Message.TheVariants.{Empty}
use Rattle.protocol_values.specs.declared.NackName.{NackName}
use Rattle.protocol_values.specs.declared.Row.{Row}
use Rattle.journal_replay.specs.Runs.{CanTake, Config, FiredAt, HasEnded, IsFiredAt, IsLegal, IsOffering, IsRun, Starts, applied, with_result, config_from, config_of, no_results}
use Rattle.journal_replay.proofs.Firing.{fired-behind}
use Rattle.journal_replay.proofs.Greatest.{more}
use Rattle.journal_replay.proofs.Standing.{config_from-append, config_of-more, result-at, result-other, touches}
use Rattle.journal_replay.proofs.Starting.{starts-on}
use Rattle.journal_order.specs.Laws.{EachMeets}
use Rattle.journal_order.specs.Meetings.{Meets, Took}
use Rattle.journal_replay.proofs.Extending.{Extends, applied-extends, config-extends, extends-chain, result-stays}
use Rattle.journal_order.proofs.Results.{before-later}
use Rattle.journal_order.proofs.Runs.{RunsOn, runs-on}
use Rattle.journal_order.proofs.Swapping.{ended-forward}

-- what a sync took, it took for good
took : (ps : List Proc) (rows : ℕ) (config : Config) (final : List Chosen) (at : Row × ℕ) (b : Base) (msg : Message) → CanTake ps rows (config at.0.thread) at b → Extends (config at.0.thread ++ (at.1, msg) ∷ []) final → Took ps final at b msg
took ps rows config final at b msg can h =
    let before = config at.0.thread in
    let whole : final ≡ before ++ (at.1, msg) ∷ h.0 = h.1 ∙ append_assoc before ((at.1, msg) ∷ []) h.0 in
    let front : take at.0.sync final ≡ before = ap (λ (rs : List Chosen). take at.0.sync rs) whole ∙ take_at before ((at.1, msg) ∷ h.0) at.0.sync (sym can.next) in record {
      result = result-stays before final (at.1, msg) at.0.sync can.next h;
      event = can.event;
      offered = subst (λ (rs : List Chosen). IsOffering ps at.0.thread rs can.event) (sym front) can.offered;
      base = can.base;
      is = can.is;
      same = can.same;
    }

-- a nack that was fired stays so
fired-later : (ps : List Proc) (config final : Config) (n : NackName) → Extends (config n.thread) (final n.thread) → (g : ℕ) × IsFiredAt ps config n g → (g : ℕ) × IsFiredAt ps final n g
fired-later ps config final n h f =
    (f.0, subst (λ (rs : List Chosen). FiredAt ps n.thread rs n.k f.0) (sym h.1) (fired-behind ps n.thread (config n.thread) h.0 n.k f.0 f.1))

-- what has started and ended has done so at the end
abbrev EndsStay : List Proc → Config → Config → Type 0
EndsStay ps config final = (t : ℕ) → Starts ps config t → HasEnded ps t (config t) → Starts ps final t × HasEnded ps t (final t)

ends-stay : (ps : List Proc) (rows : ℕ) (es cs : List Commit) (t : ℕ) → RunsOn ps rows es cs → Starts ps (config_of es) t → HasEnded ps t (config_of es t) →
    Starts ps (config_from (config_of es) cs) t × HasEnded ps t (config_from (config_of es) cs t)
ends-stay ps rows es [] t run started ended = (started, ended)
ends-stay ps rows es (c ∷ cs) t run started ended =
    let config = config_of es in
    let legal = run.0.legal in
    let later : applied config c ≡ config_of (more es c) = sym (config_of-more es c) in
    let starts : Starts ps (applied config c) t = starts-on ps config (applied config c) c (touches ps rows config c legal) started in
    let ends : HasEnded ps t (applied config c t) = ended-forward ps rows config c legal t ended in
    subst (λ (x : Config). Starts ps (config_from x cs) t × HasEnded ps t (config_from x cs t)) (config_of-more es c)
    (ends-stay ps rows (more es c) cs t run.1 (subst (λ (x : Config). Starts ps x t) later starts) (subst (λ (x : Config). HasEnded ps t (x t)) later ends))

alone-meets : (ps : List Proc) (rows : ℕ) (config final : Config) (at : Row × ℕ) (why : Cause) (stamp : ℕ) → IsLegal ps rows config (Alone at why stamp) → ((t : ℕ) → Extends (applied config (Alone at why stamp) t) (final t)) → EndsStay ps config final → Meets ps final (Alone at why stamp)
alone-meets ps rows config final at (cause.Always m) stamp legal later over =
    let t = at.0.thread in
    took ps rows config (final t) at (Always m) m legal.can (subst (λ (rs : List Chosen). Extends rs (final t)) (result-at t t (at.1, m) config refl) (later t))
alone-meets ps rows config final at (cause.Nack n) stamp legal later over =
    let t = at.0.thread in (
      took ps rows config (final t) at (OnNack n) Empty legal.0.can (subst (λ (rs : List Chosen). Extends rs (final t)) (result-at t t (at.1, Empty) config refl) (later t)),
      fired-later ps config final n (extends-chain (config n.thread) (applied config (Alone at (cause.Nack n) stamp) n.thread) (final n.thread) (applied-extends config (Alone at (cause.Nack n) stamp) n.thread) (later n.thread)) legal.1,
    )
alone-meets ps rows config final at (cause.End u) stamp legal later over =
    let t = at.0.thread in
    let w = over u legal.1 legal.2 in (
      took ps rows config (final t) at (OnEnd u) Empty legal.0.can (subst (λ (rs : List Chosen). Extends rs (final t)) (result-at t t (at.1, Empty) config refl) (later t)),
      w.0,
      w.1,
    )

meets : (ps : List Proc) (rows : ℕ) (config final : Config) (c : Commit) → IsLegal ps rows config c → ((t : ℕ) → Extends (applied config c t) (final t)) → EndsStay ps config final → Meets ps final c
meets ps rows config final (Pair sender receiver chan msg stamp) legal later over =
    let s = sender.0.thread in
    let u = receiver.0.thread in
    let middle = with_result s (sender.1, Empty) config in
    let at_sender : applied config (Pair sender receiver chan msg stamp) s ≡ config s ++ (sender.1, Empty) ∷ [] =
    result-other u s (receiver.1, msg) middle legal.0 ∙ result-at s s (sender.1, Empty) config refl in
    let at_receiver : applied config (Pair sender receiver chan msg stamp) u ≡ config u ++ (receiver.1, msg) ∷ [] =
    result-at u u (receiver.1, msg) middle refl
    ∙ ap (λ (rs : List Chosen). rs ++ (receiver.1, msg) ∷ []) (result-other s u (sender.1, Empty) config (λ e. legal.0 (sym e))) in (
      legal.0,
      took ps rows config (final s) sender _ Empty legal.1.can (subst (λ (rs : List Chosen). Extends rs (final s)) at_sender (later s)),
      took ps rows config (final u) receiver _ msg legal.2.can (subst (λ (rs : List Chosen). Extends rs (final u)) at_receiver (later u)),
    )
meets ps rows config final (Alone at why stamp) legal later over = alone-meets ps rows config final at why stamp legal later over

pub each-meets : EachMeets
each-meets ps rows journal run i c is =
    let es = take i journal in
    let within = slice_get_within journal i c is in
    let w = before-later journal i (length journal) c is within (omega arith) in
    let whole : journal ≡ more es c ++ w.0 = sym (take_all (length journal) journal (omega arith)) ∙ w.1 in
    let leads : config_of journal ≡ config_from (applied (config_of es) c) w.0 =
    ap (λ (cs : List Commit). config_of cs) whole ∙ config_from-append no_results (more es c) w.0 ∙ ap (λ (config : Config). config_from config w.0) (config_of-more es c) in
    let on : RunsOn ps rows es (c ∷ w.0) = (run i c is, runs-on ps rows (more es c) w.0 (subst (IsRun ps rows) whole run)) in
    subst (λ (config : Config). Meets ps config c) (sym leads)
    (meets ps rows (config_of es) (config_from (applied (config_of es) c) w.0) c (run i c is).legal (config-extends (applied (config_of es) c) w.0)
    (λ t started ended. ends-stay ps rows es (c ∷ w.0) t on started ended))
