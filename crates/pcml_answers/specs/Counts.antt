-- Which commits of a journal are of a kind, and how many.
use Rattle.std.specs.Prelude.{◌≡◌, ◌||◌, ◌==◌, ℕ, zero, suc, ◌+◌, ◌<◌, Bool, true, false, List, [], ◌∷◌, Contains, length, max}
use Rattle.std.specs.List.{filter}
use Rattle.protocol_values.specs.Commits.{stamp_of}
use Rattle.protocol_values.specs.declared.Commit.{Commit}
use Rattle.protocol_values.specs.declared.Commit.TheVariants as commits
use Rattle.protocol_values.specs.declared.Commit.TheVariants.{Pair}
use Rattle.pcml_answers.specs.declared.counts.Kind.{Kind}
use Rattle.pcml_answers.specs.declared.counts.Kind.TheVariants.{Sends, Receives, Alone, Uses, Of, All}

abbrev pub is_of : Kind → Commit → Bool
is_of (Sends t) (Pair sender receiver chan msg stamp) = sender.0.thread == t
is_of (Receives t) (Pair sender receiver chan msg stamp) = receiver.0.thread == t
is_of (Alone t) (Pair sender receiver chan msg stamp) = false
is_of (Uses c) (Pair sender receiver chan msg stamp) = chan == c
is_of (Of t) (Pair sender receiver chan msg stamp) = sender.0.thread == t || receiver.0.thread == t
is_of (Sends t) (commits.Alone at why stamp) = false
is_of (Receives t) (commits.Alone at why stamp) = false
is_of (Alone t) (commits.Alone at why stamp) = at.0.thread == t
is_of (Uses c) (commits.Alone at why stamp) = false
is_of (Of t) (commits.Alone at why stamp) = at.0.thread == t
is_of All commit = true

abbrev pub count : Kind → List Commit → ℕ
count kind journal = length (filter (is_of kind) journal)

-- the greatest stamp, 0 where there is none
abbrev pub greatest_stamp : List Commit → ℕ
greatest_stamp [] = 0
greatest_stamp (c ∷ cs) = max (stamp_of c) (greatest_stamp cs)

-- that of those of a kind
abbrev pub greatest : Kind → List Commit → ℕ
greatest kind journal = greatest_stamp (filter (is_of kind) journal)

-- LAWS

-- of each number below n together
abbrev pub sum_below : ℕ → (ℕ → ℕ) → ℕ
sum_below zero f = 0
sum_below (suc n) f = sum_below n f + f n

-- its processes and its channel are among the first so many
abbrev pub IsAmong : ℕ → ℕ → Commit → Type 0
IsAmong threads channels (Pair sender receiver chan msg stamp) = (sender.0.thread < threads) × (receiver.0.thread < threads) × (chan < channels)
IsAmong threads channels (commits.Alone at why stamp) = at.0.thread < threads

-- what the numbers of processes and of channels come to, all together
pub record Agrees (threads channels : ℕ) (journal : List Commit) : Type 0 where
  pub sent_received : sum_below threads (λ t. count (Sends t) journal) ≡ sum_below threads (λ t. count (Receives t) journal)
  pub sent_used : sum_below threads (λ t. count (Sends t) journal) ≡ sum_below channels (λ c. count (Uses c) journal)
  pub all : sum_below threads (λ t. count (Sends t) journal) + sum_below threads (λ t. count (Alone t) journal) ≡ length journal

abbrev pub SumsAgree : Type 0
SumsAgree = (threads channels : ℕ) (journal : List Commit) → ((c : Commit) → Contains journal c → IsAmong threads channels c) → Agrees threads channels journal
