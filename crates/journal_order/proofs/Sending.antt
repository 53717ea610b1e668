-- What a thread sent on a channel is what the pairs name, and what their receivers got.
use Rattle.std.proofs.Common.{◌≡◌, ◌≢◌, ℕ, Bool, cond, ◌&&◌, eqb, List, [], ◌∷◌, ◌++◌, Option, Some, None, slice_get, refl, sym, ap, ◌∙◌, append_assoc, append-nil, subst, inl, ⊎_elim}
use Rattle.std.specs.List.{AllByRecursion, flat_map}
use Rattle.std.specs.Option.{option_map}
use Rattle.std.proofs.lemmas.Bool.{eq-eqb, ne_eqb}
use Rattle.event.specs.Tree.{BaseEvent}
use Rattle.script_tree.specs.Processes.{Proc}
use Rattle.thread.specs.After.{Chosen, State, Outcome}
use Rattle.protocol_values.specs.declared.Base.{Base}
use Rattle.protocol_values.specs.declared.Base.TheVariants.{Send, Recv, Always, OnNack, OnEnd}
use Rattle.protocol_values.specs.declared.Cause.{Cause}
use Rattle.protocol_values.specs.declared.Cause.TheVariants as cause
use Rattle.protocol_values.specs.declared.Commit.{Commit}
use Rattle.protocol_values.specs.declared.Commit.TheVariants.{Pair, Alone}
use Rattle.protocol_values.specs.declared.Message.{Message}
use Rattle.protocol_values.specs.declared.Message.TheVariants.{Empty}
use Rattle.protocol_values.specs.declared.Row.{Row}
use Rattle.journal_replay.specs.Runs.{CanTake, Config, HasThread, IsLegal, IsRun, applied, with_result, config_from, config_of}
use Rattle.journal_replay.proofs.Greatest.{more}
use Rattle.journal_replay.proofs.Standing.{config_of-more, result-at, result-other}
use Rattle.journal_order.specs.Laws.{NamedIsReceived, ReceivedIsSent}
use Rattle.journal_order.specs.Messages.{base_in, chosen_base, sent_by, sent_behind, sent_of, sent, message_of, received_in, named_in, named}
use Rattle.journal_order.proofs.Results.{Got, got-each}
use Rattle.journal_order.proofs.Runs.{RunsOn, runs-on}
use Rattle.journal_replay.proofs.Extending.{applied-other}
use Rattle.journal_order.proofs.Swapping.{has-or-not}

-- ONE MORE RESULT

sent_behind-more : (p : Proc) (t chan : ℕ) (before rs : List Chosen) (r : Chosen) →
    sent_behind p t chan before (rs ++ r ∷ []) ≡ sent_behind p t chan before rs ++ sent_by chan (chosen_base p t (before ++ rs) r)
sent_behind-more p t chan before [] r =
    append-nil (sent_by chan (chosen_base p t before r)) ∙ ap (λ (xs : List Chosen). sent_by chan (chosen_base p t xs r)) (sym (append-nil before))
sent_behind-more p t chan before (x ∷ rs) r =
    let first = sent_by chan (chosen_base p t before x) in
    let later = sent_behind p t chan (before ++ x ∷ []) rs in
    ap (λ (ms : List Message). first ++ ms) (sent_behind-more p t chan (before ++ x ∷ []) rs r)
    ∙ sym (append_assoc first later (sent_by chan (chosen_base p t ((before ++ x ∷ []) ++ rs) r)))
    ∙ ap (λ (xs : List Chosen). (first ++ later) ++ sent_by chan (chosen_base p t xs r)) (append_assoc before (x ∷ []) rs)

sent_of-none : (o : Option Proc) (t chan : ℕ) → sent_of o t chan [] ≡ []
sent_of-none None t chan = refl
sent_of-none (Some p) t chan = refl

-- the thread takes an offer of its next sync
sent-takes : (ps : List Proc) (rows : ℕ) (results : List Chosen) (at : Row × ℕ) (b : Base) (m : Message) (chan : ℕ) → CanTake ps rows results at b →
    sent ps at.0.thread chan (results ++ (at.1, m) ∷ []) ≡ sent ps at.0.thread chan results ++ sent_by chan (Some b)
sent-takes ps rows results at b m chan take =
    let t = at.0.thread in
    let p = take.offered.process in
    let base : chosen_base p t results (at.1, m) ≡ Some b =
    ap (λ (o : Outcome State). base_in o at.1) take.offered.offers ∙ ap (λ (o : Option BaseEvent). option_map (λ (e : BaseEvent). e.base) o) take.is ∙ ap (λ (x : Base). Some x) take.same in
    ap (λ (o : Option Proc). sent_of o t chan (results ++ (at.1, m) ∷ [])) take.offered.is_its
    ∙ sent_behind-more p t chan [] results (at.1, m)
    ∙ ap (λ (o : Option Base). sent_behind p t chan [] results ++ sent_by chan o) base
    ∙ ap (λ (o : Option Proc). sent_of o t chan results ++ sent_by chan (Some b)) (sym take.offered.is_its)

-- ONE MORE COMMIT

-- what thread t sent grows by the messages that the commit names
abbrev Sends : List Proc → ℕ → Config → Commit → ℕ → Type 0
Sends ps chan config c t = sent ps t chan (applied config c t) ≡ sent ps t chan (config t) ++ named_in t chan c

names-none : (t chan : ℕ) (sender receiver : Row × ℕ) (c : ℕ) (msg : Message) (stamp : ℕ) → sender.0.thread ≢ t → named_in t chan (Pair sender receiver c msg stamp) ≡ []
names-none t chan sender receiver c msg stamp ne = ap (λ (b : Bool). cond (b && eqb c chan) (msg ∷ []) []) (ne_eqb sender.0.thread t ne)

names-one : (chan : ℕ) (sender receiver : Row × ℕ) (c : ℕ) (msg : Message) (stamp : ℕ) →
    sent_by chan (Some (Send c msg)) ≡ named_in sender.0.thread chan (Pair sender receiver c msg stamp)
names-one chan sender receiver c msg stamp =
    ap (λ (b : Bool). cond (b && eqb c chan) (msg ∷ []) []) (sym (eq-eqb sender.0.thread sender.0.thread refl))

-- a thread that the commit leaves alone
sends-none : (ps : List Proc) (chan : ℕ) (config : Config) (c : Commit) (t : ℕ) → (HasThread c t → ⊥) → named_in t chan c ≡ [] → Sends ps chan config c t
sends-none ps chan config c t apart none =
    ap (λ (rs : List Chosen). sent ps t chan rs) (applied-other config c t apart) ∙ sym (append-nil (sent ps t chan (config t)))
    ∙ ap (λ (ms : List Message). sent ps t chan (config t) ++ ms) (sym none)

-- one that takes an offer of which it is known what it sends
sends-by : (ps : List Proc) (rows chan : ℕ) (config : Config) (c : Commit) (at : Row × ℕ) (b : Base) (m : Message) → CanTake ps rows (config at.0.thread) at b →
    applied config c at.0.thread ≡ config at.0.thread ++ (at.1, m) ∷ [] → sent_by chan (Some b) ≡ named_in at.0.thread chan c → Sends ps chan config c at.0.thread
sends-by ps rows chan config c at b m take is names =
    ap (λ (rs : List Chosen). sent ps at.0.thread chan rs) is ∙ sent-takes ps rows (config at.0.thread) at b m chan take
    ∙ ap (λ (ms : List Message). sent ps at.0.thread chan (config at.0.thread) ++ ms) names

sends-pair : (ps : List Proc) (rows chan : ℕ) (config : Config) (sender receiver : Row × ℕ) (c : ℕ) (msg : Message) (stamp t : ℕ) →
    IsLegal ps rows config (Pair sender receiver c msg stamp) → HasThread (Pair sender receiver c msg stamp) t → Sends ps chan config (Pair sender receiver c msg stamp) t
sends-pair ps rows chan config sender receiver c msg stamp t legal has =
    let s = sender.0.thread in
    let u = receiver.0.thread in
    let commit = Pair sender receiver c msg stamp in
    ⊎_elim
    (λ e. subst (Sends ps chan config commit) e
    (sends-by ps rows chan config commit sender (Send c msg) Empty legal.1.can
    (result-other u s (receiver.1, msg) (with_result s (sender.1, Empty) config) legal.0 ∙ result-at s s (sender.1, Empty) config refl)
    (names-one chan sender receiver c msg stamp)))
    (λ e. subst (Sends ps chan config commit) e
    (sends-by ps rows chan config commit receiver (Recv c) msg legal.2.can
    (result-at u u (receiver.1, msg) (with_result s (sender.1, Empty) config) refl
    ∙ ap (λ (rs : List Chosen). rs ++ (receiver.1, msg) ∷ []) (result-other s u (sender.1, Empty) config (λ same. legal.0 (sym same))))
    (sym (names-none u chan sender receiver c msg stamp legal.0))))
    has

sends-alone : (ps : List Proc) (rows chan : ℕ) (config : Config) (at : Row × ℕ) (why : Cause) (stamp : ℕ) →
    IsLegal ps rows config (Alone at why stamp) → Sends ps chan config (Alone at why stamp) at.0.thread
sends-alone ps rows chan config at (cause.Always m) stamp legal =
    sends-by ps rows chan config (Alone at (cause.Always m) stamp) at (Always m) m legal.can (result-at at.0.thread at.0.thread (at.1, m) config refl) refl
sends-alone ps rows chan config at (cause.Nack n) stamp legal =
    sends-by ps rows chan config (Alone at (cause.Nack n) stamp) at (OnNack n) Empty legal.0.can (result-at at.0.thread at.0.thread (at.1, Empty) config refl) refl
sends-alone ps rows chan config at (cause.End t) stamp legal =
    sends-by ps rows chan config (Alone at (cause.End t) stamp) at (OnEnd t) Empty legal.0.can (result-at at.0.thread at.0.thread (at.1, Empty) config refl) refl

sends : (ps : List Proc) (rows chan : ℕ) (config : Config) (c : Commit) (t : ℕ) → IsLegal ps rows config c → Sends ps chan config c t
sends ps rows chan config (Pair sender receiver c msg stamp) t legal = ⊎_elim
    (λ has. sends-pair ps rows chan config sender receiver c msg stamp t legal has)
    (λ no. sends-none ps chan config (Pair sender receiver c msg stamp) t no (names-none t chan sender receiver c msg stamp (λ e. no (inl e))))
    (has-or-not (Pair sender receiver c msg stamp) t)
sends ps rows chan config (Alone at why stamp) t legal = ⊎_elim
    (λ e. subst (Sends ps chan config (Alone at why stamp)) e (sends-alone ps rows chan config at why stamp legal))
    (λ no. sends-none ps chan config (Alone at why stamp) t no refl)
    (has-or-not (Alone at why stamp) t)

-- A RUN

sent-on : (ps : List Proc) (rows chan : ℕ) (es cs : List Commit) (t : ℕ) → RunsOn ps rows es cs →
    sent ps t chan (config_from (config_of es) cs t) ≡ sent ps t chan (config_of es t) ++ named t chan cs
sent-on ps rows chan es [] t run = sym (append-nil (sent ps t chan (config_of es t)))
sent-on ps rows chan es (c ∷ cs) t run =
    let config = config_of es in
    ap (λ (x : Config). sent ps t chan (config_from x cs t)) (sym (config_of-more es c))
    ∙ sent-on ps rows chan (more es c) cs t run.1
    ∙ ap (λ (x : Config). sent ps t chan (x t) ++ named t chan cs) (config_of-more es c)
    ∙ ap (λ (ms : List Message). ms ++ named t chan cs) (sends ps rows chan config c t run.0.legal)
    ∙ append_assoc (sent ps t chan (config t)) (named_in t chan c) (named t chan cs)

sent-is-named : (ps : List Proc) (rows chan : ℕ) (journal : List Commit) (t : ℕ) → IsRun ps rows journal → sent ps t chan (config_of journal t) ≡ named t chan journal
sent-is-named ps rows chan journal t run =
    sent-on ps rows chan [] journal t (runs-on ps rows [] journal run) ∙ ap (λ (ms : List Message). ms ++ named t chan journal) (sent_of-none (slice_get ps t) t chan)

-- what the receiver got is what the pair names
got-named : (config : Config) (t chan : ℕ) (c : Commit) → Got config c → named_in t chan c ≡ received_in config t chan c
got-named config t chan (Pair sender receiver c msg stamp) got =
    ap (λ (o : Option Chosen). cond (eqb sender.0.thread t && eqb c chan) (message_of o) []) (sym got)
got-named config t chan (Alone at why stamp) got = refl

received-on : (config : Config) (t chan : ℕ) (cs : List Commit) → AllByRecursion (Got config) cs → named t chan cs ≡ flat_map (received_in config t chan) cs
received-on config t chan [] all = refl
received-on config t chan (c ∷ cs) all =
    ap (λ (ms : List Message). ms ++ named t chan cs) (got-named config t chan c all.0)
    ∙ ap (λ (ms : List Message). received_in config t chan c ++ ms) (received-on config t chan cs all.1)

pub named-is-received : NamedIsReceived
named-is-received ps rows journal run t chan = received-on (config_of journal) t chan journal (got-each ps rows [] journal (runs-on ps rows [] journal run))

pub received-is-sent : ReceivedIsSent
received-is-sent ps rows journal run t chan = sym (named-is-received ps rows journal run t chan) ∙ sym (sent-is-named ps rows chan journal t run)
