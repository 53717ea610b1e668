-- Two commits next to each other, of which the second does not count the first, may change places.
use Rattle.std.proofs.Common.{◌≡◌, ◌⊎◌, ℕ, ◌+◌, ◌≤◌, cond, eqb, List, [], ◌∷◌, ◌++◌, length, refl, sym, ap, ◌∙◌, subst, arith, inl, inr, ⊎_elim}
use Rattle.std.proofs.lemmas.Bool.{cases_eq}
use Rattle.std.proofs.lemmas.Option.{same_Some, slice_get_within}
use Rattle.event.specs.Tree.{Tree}
use Rattle.script_tree.specs.Processes.{Proc}
use Rattle.thread.specs.After.{Chosen, Outcome, State, after}
use Rattle.protocol_values.specs.declared.Base.{Base}
use Rattle.protocol_values.specs.declared.Base.TheVariants.{Send, Recv, Always, OnNack, OnEnd}
use Rattle.protocol_values.specs.declared.Cause.{Cause}
use Rattle.protocol_values.specs.declared.Cause.TheVariants as cause
use Rattle.protocol_values.specs.declared.Commit.{Commit}
use Rattle.protocol_values.specs.declared.Commit.TheVariants.{Pair, Alone}
use Rattle.protocol_values.specs.declared.Message.TheVariants.{Empty}
use Rattle.protocol_values.specs.declared.NackName.{NackName}
use Rattle.protocol_values.specs.declared.Row.{Row}
use Rattle.protocol_values.specs.Commits.{stamp_of}
use Rattle.journal_replay.specs.Runs.{Config, CanTake, MayTake, IsCaused, IsLegal, IsFiredAt, IsOffering, FiredAt, Fires, CausedBy, CountsFor, CountsOf, HasEnded, HasRow, HasThread, IsGreatest, Follows, Starts, applied, with_result, message_by, config_of}
use Rattle.journal_replay.specs.Starting.{IsOver}
use Rattle.journal_replay.proofs.Extending.{applied-other}
use Rattle.journal_replay.proofs.Firing.{fired-kept, fired-cases}
use Rattle.journal_replay.proofs.Greatest.{more, in-more, last-more, more-cases, greatest-other, greatest-same}
use Rattle.journal_replay.proofs.Standing.{result-at, result-other, rows-are, started-alone, touches}
use Rattle.journal_replay.proofs.Starting.{Touches, counts-back, counts-on, starts-back, starts-on, uncounted as start-uncounted}
use Rattle.protocol_values.specs.Commits.{Gives}
use Rattle.journal_order.proofs.Nacks.{fired-once}

-- WHAT A COMMIT DOES TO A THREAD

-- a legal commit leaves a thread's results alone, or adds one for the sync that comes next
pub record Grew (config : Config) (c : Commit) (t : ℕ) : Type 0 where
  pub result : Chosen
  pub is : applied config c t ≡ config t ++ result ∷ []
  pub row : HasRow c t (length (config t))
  pub gives : Gives c (record { thread = t; sync = length (config t) }) result

gives-alone : (at : Row × ℕ) (why : Cause) (stamp : ℕ) (r : Row) → at.0 ≡ r → Gives (Alone at why stamp) r (at.1, message_by why)
gives-alone at (cause.Always m) stamp r e = (e, refl)
gives-alone at (cause.Nack n) stamp r e = (e, refl)
gives-alone at (cause.End t) stamp r e = (e, refl)

pub grows : (ps : List Proc) (rows : ℕ) (config : Config) (c : Commit) (t : ℕ) → IsLegal ps rows config c → HasThread c t → Grew config c t
grows ps rows config (Pair sender receiver chan msg stamp) t legal has =
    let s = sender.0.thread in
    let u = receiver.0.thread in
    let next = rows-are ps rows config (Pair sender receiver chan msg stamp) legal t in
    ⊎_elim
    (λ e.
    let sync : sender.0.sync ≡ length (config t) = (next sender.0.sync (inl (e, refl))).0 in
    record {
      result = (sender.1, Empty);
      is = result-other u t (receiver.1, msg) (with_result s (sender.1, Empty) config) (λ same. legal.0 (e ∙ same)) ∙ result-at s t (sender.1, Empty) config (sym e);
      row = inl (e, sync);
      gives = inl ((λ i. record { thread = e i; sync = sync i }), refl);
    })
    (λ e.
    let sync : receiver.0.sync ≡ length (config t) = (next receiver.0.sync (inr (e, refl))).0 in
    record {
      result = (receiver.1, msg);
      is = result-at u t (receiver.1, msg) (with_result s (sender.1, Empty) config) (sym e)
          ∙ ap (λ (rs : List Chosen). rs ++ (receiver.1, msg) ∷ []) (result-other s t (sender.1, Empty) config (λ same. legal.0 (sym same ∙ sym e)));
      row = inr (e, sync);
      gives = inr ((λ i. record { thread = e i; sync = sync i }), refl);
    })
    has
grows ps rows config (Alone at why stamp) t legal e =
    let sync : at.0.sync ≡ length (config t) = (rows-are ps rows config (Alone at why stamp) legal t at.0.sync (e, refl)).0 in
    record {
      result = (at.1, message_by why);
      is = result-at at.0.thread t (at.1, message_by why) config (sym e);
      row = (e, sync);
      gives = gives-alone at why stamp (record { thread = t; sync = length (config t) }) (λ i. record { thread = e i; sync = sync i });
    }

pub has-or-not : (c : Commit) (t : ℕ) → HasThread c t ⊎ (HasThread c t → ⊥)
has-or-not (Pair sender receiver chan msg stamp) t = ⊎_elim
    (λ e. inl (inl e))
    (λ ne. ⊎_elim (λ e. inl (inr e)) (λ no. inr (λ h. ⊎_elim (λ x. ne x) (λ x. no x) h)) (cases_eq receiver.0.thread t))
    (cases_eq sender.0.thread t)
has-or-not (Alone at why stamp) t = cases_eq at.0.thread t

-- THREADS THAT HAVE ENDED

-- what has ended offers nothing
pub ended-offers : (ps : List Proc) (t : ℕ) (results : List Chosen) (event : Tree) → HasEnded ps t results → IsOffering ps t results event → ⊥
ended-offers ps t results event ended offering =
    let same : ended.process ≡ offering.process = same_Some ended.process offering.process (sym ended.is_its ∙ offering.is_its) in
    let over : IsOver (after offering.process.body (length offering.process.variables) t results) =
    subst (λ (p : Proc). IsOver (after p.body (length p.variables) t results)) same ended.over in
    subst (λ (o : Outcome State). IsOver o) offering.offers over

abbrev pub Offering : List Proc → Config → ℕ → Type 0
Offering ps config t = (event : Tree) × IsOffering ps t (config t) event

taker-offers : (ps : List Proc) (rows : ℕ) (config : Config) (at : Row × ℕ) (b : Base) → MayTake ps rows config at b → Offering ps config at.0.thread
taker-offers ps rows config at b take = (take.can.event, take.can.offered)

alone-offers : (ps : List Proc) (rows : ℕ) (config : Config) (at : Row × ℕ) (why : Cause) → IsCaused ps rows config at why → Offering ps config at.0.thread
alone-offers ps rows config at (cause.Always m) h = taker-offers ps rows config at (Always m) h
alone-offers ps rows config at (cause.Nack n) h = taker-offers ps rows config at (OnNack n) h.0
alone-offers ps rows config at (cause.End t) h = taker-offers ps rows config at (OnEnd t) h.0

pub legal-offers : (ps : List Proc) (rows : ℕ) (config : Config) (c : Commit) (t : ℕ) → IsLegal ps rows config c → HasThread c t → Offering ps config t
legal-offers ps rows config (Pair sender receiver chan msg stamp) t legal has = ⊎_elim
    (λ s. subst (Offering ps config) s (taker-offers ps rows config sender (Send chan msg) legal.1))
    (λ r. subst (Offering ps config) r (taker-offers ps rows config receiver (Recv chan) legal.2)) has
legal-offers ps rows config (Alone at why stamp) t legal has = subst (Offering ps config) has (alone-offers ps rows config at why legal)

-- so it is in no commit that comes next
pub ended-apart : (ps : List Proc) (rows : ℕ) (config : Config) (c : Commit) (t : ℕ) → IsLegal ps rows config c → HasEnded ps t (config t) → HasThread c t → ⊥
ended-apart ps rows config c t legal ended has = let w = legal-offers ps rows config c t legal has in ended-offers ps t (config t) w.0 ended w.1

-- WHERE A COMMIT IS ADDED

module _ (ps : List Proc) (rows : ℕ) (config : Config) (c : Commit) (legal : IsLegal ps rows config c) where
  abbrev later : Config
  later = applied config c

  moves : Touches config later c
  moves = touches ps rows config c legal

  fired-forward : (n : NackName) (g : ℕ) → IsFiredAt ps config n g → IsFiredAt ps later n g
  fired-forward n g f = ⊎_elim
      (λ same. subst (λ (rs : List Chosen). FiredAt ps n.thread rs n.k g) (sym same) f)
      (λ grew. subst (λ (rs : List Chosen). FiredAt ps n.thread rs n.k g) (sym grew.1) (fired-kept ps n.thread (config n.thread) grew.0 n.k g f))
      (moves n.thread)

  -- a nack that is fired after a commit which did not fire it was fired before
  fired-backward : (n : NackName) (g : ℕ) → (Fires ps later n c → ⊥) → IsFiredAt ps later n g → (h : ℕ) × IsFiredAt ps config n h
  fired-backward n g none f = ⊎_elim
      (λ same. (g, subst (λ (rs : List Chosen). FiredAt ps n.thread rs n.k g) same f))
      (λ grew. ⊎_elim
      (λ old. (g, old))
      (λ now. absurd (none (g, f, subst (HasRow c n.thread) (sym now.0) grew.2)))
      (fired-cases ps n.thread (config n.thread) grew.0 n.k g (subst (λ (rs : List Chosen). FiredAt ps n.thread rs n.k g) grew.1 f)))
      (moves n.thread)

  -- a thread that has ended stays so
  pub ended-forward : (t : ℕ) → HasEnded ps t (config t) → HasEnded ps t (later t)
  ended-forward t ended = subst (HasEnded ps t) (sym (applied-other config c t (ended-apart ps rows config c t legal ended))) ended

  -- WHAT COUNTS, before the commit as behind it

  of-same : (t : ℕ) → Starts ps config t → (e : Commit) → (CountsOf ps config t e → CountsOf ps later t e) × (CountsOf ps later t e → CountsOf ps config t e)
  of-same t started e = (
    λ h. ⊎_elim (λ x. inl x) (λ x. inr (counts-on ps config later c moves e x)) h,
    λ h. ⊎_elim (λ x. inl x) (λ x. inr (counts-back ps config later c moves e x started)) h,
  )

  fires-same : (e : Commit) (n : NackName) → ((h : ℕ) × IsFiredAt ps config n h) → (Fires ps config n e → Fires ps later n e) × (Fires ps later n e → Fires ps config n e)
  fires-same e n known = (
    λ w. (w.0, fired-forward n w.0 w.1, w.2),
    λ w.
        let kept = fired-forward n known.0 known.1 in
        let same : w.0 ≡ known.0 = fired-once ps n.thread (later n.thread) n.k w.0 known.0 w.1 kept in
        (known.0, known.1, subst (HasRow e n.thread) same w.2),
  )

  cause-same : (at : Row × ℕ) (why : Cause) (e : Commit) → IsCaused ps rows config at why → (CausedBy ps config why e → CausedBy ps later why e) × (CausedBy ps later why e → CausedBy ps config why e)
  cause-same at (cause.Always m) e known = (λ h. h, λ h. h)
  cause-same at (cause.Nack n) e known = fires-same e n known.1
  cause-same at (cause.End t) e known = of-same t known.1 e

  -- for a commit that may come next already
  counts-same : (d e : Commit) → IsLegal ps rows config d → (CountsFor ps config d e → CountsFor ps later d e) × (CountsFor ps later d e → CountsFor ps config d e)
  counts-same (Pair sender receiver chan msg stamp) e known =
      let one = of-same sender.0.thread known.1.started e in
      let two = of-same receiver.0.thread known.2.started e in
      (λ h. ⊎_elim (λ x. inl (one.0 x)) (λ x. inr (two.0 x)) h, λ h. ⊎_elim (λ x. inl (one.1 x)) (λ x. inr (two.1 x)) h)
  counts-same (Alone at why stamp) e known =
      let one = of-same at.0.thread (started-alone ps rows config at why known) e in
      let two = cause-same at why e known in
      (λ h. ⊎_elim (λ x. inl (one.0 x)) (λ x. inr (two.0 x)) h, λ h. ⊎_elim (λ x. inl (one.1 x)) (λ x. inr (two.1 x)) h)

  -- LEGALITY

  -- a thread for which the commit does not count stood before it as behind it
  free : (t : ℕ) → (CountsOf ps later t c → ⊥) → Starts ps later t → Starts ps config t × (later t ≡ config t)
  free t none started = (starts-back ps config later c moves started (λ h. none (inr h)), applied-other config c t (λ h. none (inl h)))

  take-before : (at : Row × ℕ) (b : Base) → (CountsOf ps later at.0.thread c → ⊥) → MayTake ps rows later at b → MayTake ps rows config at b
  take-before at b none take =
      let w = free at.0.thread none take.started in
      record { started = w.0; can = subst (λ (rs : List Chosen). CanTake ps rows rs at b) w.1 take.can }

  caused-before : (at : Row × ℕ) (why : Cause) → (CountsOf ps later at.0.thread c ⊎ CausedBy ps later why c → ⊥) → IsCaused ps rows later at why → IsCaused ps rows config at why
  caused-before at (cause.Always m) none d = take-before at (Always m) (λ h. none (inl h)) d
  caused-before at (cause.Nack n) none d = (
    take-before at (OnNack n) (λ h. none (inl h)) d.0,
    fired-backward n d.1.0 (λ fires. none (inr fires)) d.1.1,
  )
  caused-before at (cause.End t) none d =
      let w = free t (λ h. none (inr h)) d.1 in
      (take-before at (OnEnd t) (λ h. none (inl h)) d.0, w.0, subst (HasEnded ps t) w.1 d.2)

  -- a commit that does not count the one before it is legal without it
  pub legal-before : (d : Commit) → (CountsFor ps later d c → ⊥) → IsLegal ps rows later d → IsLegal ps rows config d
  legal-before (Pair sender receiver chan msg stamp) none d = (
    d.0,
    take-before sender (Send chan msg) (λ h. none (inl h)) d.1,
    take-before receiver (Recv chan) (λ h. none (inr h)) d.2,
  )
  legal-before (Alone at why stamp) none d = caused-before at why none d

  take-behind : (at : Row × ℕ) (b : Base) → (HasThread c at.0.thread → ⊥) → MayTake ps rows config at b → MayTake ps rows later at b
  take-behind at b apart take = record {
    started = starts-on ps config later c moves take.started;
    can = subst (λ (rs : List Chosen). CanTake ps rows rs at b) (sym (applied-other config c at.0.thread apart)) take.can;
  }

  caused-behind : (at : Row × ℕ) (why : Cause) → (HasThread c at.0.thread → ⊥) → IsCaused ps rows config at why → IsCaused ps rows later at why
  caused-behind at (cause.Always m) apart d = take-behind at (Always m) apart d
  caused-behind at (cause.Nack n) apart d = (take-behind at (OnNack n) apart d.0, (d.1.0, fired-forward n d.1.0 d.1.1))
  caused-behind at (cause.End t) apart d = (take-behind at (OnEnd t) apart d.0, starts-on ps config later c moves d.1, ended-forward t d.2)

  -- one that shares no thread with it stays legal behind it
  pub legal-behind : (d : Commit) → ((t : ℕ) → HasThread d t → HasThread c t → ⊥) → IsLegal ps rows config d → IsLegal ps rows later d
  legal-behind (Pair sender receiver chan msg stamp) apart d = (
    d.0,
    take-behind sender (Send chan msg) (apart sender.0.thread (inl refl)) d.1,
    take-behind receiver (Recv chan) (apart receiver.0.thread (inr refl)) d.2,
  )
  legal-behind (Alone at why stamp) apart d = caused-behind at why (apart at.0.thread refl) d

  -- and does not count it
  of-apart : (t : ℕ) → (HasThread c t → ⊥) → Starts ps config t → CountsOf ps later t c → ⊥
  of-apart t apart started h =
      ⊎_elim (λ x. apart x) (λ x. start-uncounted ps config later c moves (λ s g row. (rows-are ps rows config c legal s g row).0) x started) h

  cause-apart : (at : Row × ℕ) (why : Cause) → IsCaused ps rows config at why → CausedBy ps later why c → ⊥
  cause-apart at (cause.Always m) known h = h
  cause-apart at (cause.Nack n) known w =
      let fired = known.1 in
      let kept = fired-forward n fired.0 fired.1 in
      let within = slice_get_within (config n.thread) fired.0 fired.1.chosen fired.1.result in
      let new = (rows-are ps rows config c legal n.thread w.0 w.2).0 in
      omega (arith, fired-once ps n.thread (later n.thread) n.k w.0 fired.0 w.1 kept, within, new)
  cause-apart at (cause.End t) known h = of-apart t (ended-apart ps rows config c t legal known.2) known.1 h

  pub behind-uncounted : (d : Commit) → ((t : ℕ) → HasThread d t → HasThread c t → ⊥) → IsLegal ps rows config d → CountsFor ps later d c → ⊥
  behind-uncounted (Pair sender receiver chan msg stamp) apart known h = ⊎_elim
      (λ x. of-apart sender.0.thread (apart sender.0.thread (inl refl)) known.1.started x)
      (λ x. of-apart receiver.0.thread (apart receiver.0.thread (inr refl)) known.2.started x) h
  behind-uncounted (Alone at why stamp) apart known h = ⊎_elim
      (λ x. of-apart at.0.thread (apart at.0.thread refl) (started-alone ps rows config at why known) x)
      (λ x. cause-apart at why known x) h

-- STAMPS

greatest-drop : (es : List Commit) (c : Commit) (Kind : Commit → Type 0) (n : ℕ) → IsGreatest (more es c) Kind n → (Kind c → ⊥) → IsGreatest es Kind n
greatest-drop es c Kind n g none = record {
  above = λ d there kind. g.above d (in-more es c d there) kind;
  there = ⊎_elim
      (λ e. inl e)
      (λ w. ⊎_elim
      (λ before. inr (w.0, before, w.2, w.3))
      (λ same. absurd (none (subst Kind (sym same) w.2)))
      (more-cases es c w.0 w.1))
      g.there;
}

-- THE CHANGE OF PLACES

-- what it says that a commit follows, where the configuration is named
pub record FollowsAt (ps : List Proc) (rows : ℕ) (config : Config) (earlier : List Commit) (c : Commit) : Type 0 where
  pub legal : IsLegal ps rows config c
  pub greatest : ℕ
  pub is : IsGreatest earlier (CountsFor ps config c) greatest
  pub stamp : stamp_of c ≡ greatest + 1

pub follows-at : (ps : List Proc) (rows : ℕ) (earlier : List Commit) (config : Config) (c : Commit) → config_of earlier ≡ config → Follows ps rows earlier c → FollowsAt ps rows config earlier c
follows-at ps rows earlier config c e f =
    subst (λ (x : Config). FollowsAt ps rows x earlier c) e (record { legal = f.legal; greatest = f.greatest; is = f.is; stamp = f.stamp })

pub at-follows : (ps : List Proc) (rows : ℕ) (earlier : List Commit) (config : Config) (c : Commit) → config_of earlier ≡ config → FollowsAt ps rows config earlier c → Follows ps rows earlier c
at-follows ps rows earlier config c e f =
    let g = subst (λ (x : Config). FollowsAt ps rows x earlier c) (sym e) f in
    record { legal = g.legal; greatest = g.greatest; is = g.is; stamp = g.stamp }

-- of two commits in a row the second has no greater stamp: so it does not count the first
pub uncounted : (ps : List Proc) (rows : ℕ) (es : List Commit) (config : Config) (c d : Commit) → FollowsAt ps rows config (more es c) d → stamp_of d ≤ stamp_of c → CountsFor ps config d c → ⊥
uncounted ps rows es config c d f le h = omega (arith, f.is.above c (last-more es c) h, f.stamp, le)

-- the second may stand first
pub second-first : (ps : List Proc) (rows : ℕ) (config : Config) (es : List Commit) (c d : Commit) → FollowsAt ps rows config es c → FollowsAt ps rows (applied config c) (more es c) d →
    (CountsFor ps (applied config c) d c → ⊥) → FollowsAt ps rows config es d
second-first ps rows config es c d f g none =
    let legal = legal-before ps rows config c f.legal d none g.legal in
    record {
      legal = legal;
      greatest = g.greatest;
      is = greatest-same es (CountsFor ps (applied config c) d) (CountsFor ps config d) g.greatest
          (λ e h. (counts-same ps rows config c f.legal d e legal).1 h)
          (λ e h. (counts-same ps rows config c f.legal d e legal).0 h)
          (greatest-drop es c (CountsFor ps (applied config c) d) g.greatest g.is none);
      stamp = g.stamp;
    }

-- and the first may stand second
pub first-second : (ps : List Proc) (rows : ℕ) (config : Config) (es : List Commit) (c d : Commit) → FollowsAt ps rows config es c → IsLegal ps rows config d →
    ((t : ℕ) → HasThread c t → HasThread d t → ⊥) → FollowsAt ps rows (applied config d) (more es d) c
first-second ps rows config es c d f other apart = record {
  legal = legal-behind ps rows config d other c apart f.legal;
  greatest = f.greatest;
  is = greatest-other es d (CountsFor ps (applied config d) c) f.greatest
      (greatest-same es (CountsFor ps config c) (CountsFor ps (applied config d) c) f.greatest
      (λ e h. (counts-same ps rows config d other c e f.legal).0 h)
      (λ e h. (counts-same ps rows config d other c e f.legal).1 h) f.is)
      (behind-uncounted ps rows config d other c apart f.legal);
  stamp = f.stamp;
}

-- WHERE BOTH LEAD

-- what a commit does to a thread depends on that thread's results alone
pub applied-at : (config other : Config) (c : Commit) (t : ℕ) → config t ≡ other t → applied config c t ≡ applied other c t
applied-at config other (Pair sender receiver chan msg stamp) t e =
    let one : List Chosen → List Chosen = λ rs. cond (eqb t sender.0.thread) (rs ++ (sender.1, Empty) ∷ []) rs in
    let two : List Chosen → List Chosen = λ rs. cond (eqb t receiver.0.thread) (rs ++ (receiver.1, msg) ∷ []) rs in
    ap (λ (rs : List Chosen). two (one rs)) e
applied-at config other (Alone at why stamp) t e =
    ap (λ (rs : List Chosen). cond (eqb t at.0.thread) (rs ++ (at.1, message_by why) ∷ []) rs) e

commute-at : (config : Config) (c d : Commit) → ((t : ℕ) → HasThread c t → HasThread d t → ⊥) → (t : ℕ) → applied (applied config c) d t ≡ applied (applied config d) c t
commute-at config c d apart t = ⊎_elim
    (λ h. applied-other (applied config c) d t (apart t h) ∙ sym (applied-at (applied config d) config c t (applied-other config d t (apart t h))))
    (λ no. applied-at (applied config c) config d t (applied-other config c t no) ∙ sym (applied-other (applied config d) c t no))
    (has-or-not c t)

pub commute : (config : Config) (c d : Commit) → ((t : ℕ) → HasThread c t → HasThread d t → ⊥) → applied (applied config c) d ≡ applied (applied config d) c
commute config c d apart = λ i t. commute-at config c d apart t i
