-- Entries join a lane one after another.
use Rattle.std.proofs.Common.{◌≡◌, ◌<◌, ◌+◌, ℕ, List, [], ◌∷◌, ◌++◌, inl, inr, ap, sym, ◌∙◌, map, take, get_or, length, arith}
use Rattle.std.proofs.lemmas.List.{append_assoc, map-append, take_more}
use Rattle.meet_queues.specs.declared.entries.Entry.{Entry}
use Rattle.meet_queues.specs.declared.entries.QueueView.{QueueView}
use Rattle.meet_queues.specs.declared.lane.LanePass.{LanePass}
use Rattle.meet_queues.specs.Lanes.{Offered, entry, hand_of}
use Rattle.meet.specs.Rooms.{AllJoin, Joins, offers_put}

pub joins_next : (before now after : LanePass) (entries : List Offered) (n : ℕ) (e : Offered) → AllJoin before now (take n entries) → Joins now after e → n < length entries → e ≡ get_or entries n e → AllJoin before after (take (n + 1) entries)
joins_next before now after entries n e (inl all) (inl put) less is =
    let more : take (n + 1) entries ≡ take n entries ++ e ∷ [] = take_more entries n e less ∙ ap (λ (x : Offered). take n entries ++ x ∷ []) (sym is) in
    let item : Entry Offered → Offered = λ x. x.item in
    inl (ap (λ (h : QueueView Offered). map item h.put) put.1.2
    ∙ map-append item (hand_of now).put (entry e now ∷ [])
    ∙ ap (λ (xs : List Offered). xs ++ e ∷ []) all
    ∙ append_assoc (offers_put before) (take n entries) (e ∷ [])
    ∙ ap (λ (xs : List Offered). offers_put before ++ xs) (sym more))
joins_next before now after entries n e (inl all) (inr full) less is = inr (full.1.1 ∙ full.0)
joins_next before now after entries n e (inr end) (inl put) less is = let low = put.0 in absurd (omega arith)
joins_next before now after entries n e (inr end) (inr full) less is = inr (full.1.1 ∙ full.0)
