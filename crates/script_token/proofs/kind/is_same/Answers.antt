use Rattle.std.proofs.Common.{◌≡◌, ℕ, eqb, refl, ap, ◌∙◌}
use denote.Enum.Bare.{sameb}
use denote.Enum.Declared.{tag_of}
use Rattle.script_token.specs.declared.kind.Symbol.{Symbol}
use Rattle.script_token.specs.declared.kind.Symbol.TheVariants.{Channel, Process, Let, Print, Sync, If, Else, Loop, Forever, End, Send, Recv, Always, Never, Cancelled, Choose, Wrap, As, To, Guard, Nack, Spawn, Joined, Semicolon, Comma, OpenBrace, CloseBrace, OpenParen, CloseParen, OpenBracket, CloseBracket, Equal, Less, Plus, Minus, Arrow}
use Rattle.script_token.specs.contracts.kind.Symbol.{the_type}
use Rattle.script_token.specs.Tokens.{order, same_symbol}
use Rattle.script_token.proofs.kind.is_same.Goals as goal

tags : (s : Symbol) → tag_of the_type s ≡ order s
tags Channel = refl
tags Process = refl
tags Let = refl
tags Print = refl
tags Sync = refl
tags If = refl
tags Else = refl
tags Loop = refl
tags Forever = refl
tags End = refl
tags Send = refl
tags Recv = refl
tags Always = refl
tags Never = refl
tags Cancelled = refl
tags Choose = refl
tags Wrap = refl
tags As = refl
tags To = refl
tags Guard = refl
tags Nack = refl
tags Spawn = refl
tags Joined = refl
tags Semicolon = refl
tags Comma = refl
tags OpenBrace = refl
tags CloseBrace = refl
tags OpenParen = refl
tags CloseParen = refl
tags OpenBracket = refl
tags CloseBracket = refl
tags Equal = refl
tags Less = refl
tags Plus = refl
tags Minus = refl
tags Arrow = refl

same_order : (a b : Symbol) → sameb the_type a b ≡ same_symbol a b
same_order a b = ap (λ (n : ℕ). eqb n (tag_of the_type b)) (tags a) ∙ ap (λ (n : ℕ). eqb (order a) n) (tags b)

pub returns : goal.returns
returns c = c.eq.ensures ∙ same_order c.args.a c.args.b
