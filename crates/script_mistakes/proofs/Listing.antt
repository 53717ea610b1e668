-- All kinds are tried, one after another.
use Rattle.std.proofs.Common.{◌≡◌, ⊎_elim, zero, suc, List, [], ◌∷◌, ◌++◌, refl, sym, subst, arith}
use Rattle.std.specs.Prelude.{Contains}
use Rattle.std.proofs.lemmas.List.Elements.{Contains-append_cases, Contains-append_left, Contains-push}
use Rattle.script_token.specs.Tokens.{Token}
use Rattle.script_token.specs.declared.kind.Symbol.{Symbol}
use Rattle.script_token.specs.declared.kind.Symbol.TheVariants as symbols
use Rattle.script_mistakes.specs.declared.kind.Kind.{Kind}
use Rattle.script_mistakes.specs.declared.kind.Kind.TheVariants as kinds
use Rattle.script_mistakes.specs.declared.kind.TheConstants.{KINDS}
use Rattle.script_mistakes.specs.Expected.{AreExpected, MayStand}

symbol_kind : (symbol : Symbol) → Contains KINDS (kinds.Symbol symbol)
symbol_kind symbols.Channel = (2, omega arith, refl)
symbol_kind symbols.Process = (3, omega arith, refl)
symbol_kind symbols.Let = (4, omega arith, refl)
symbol_kind symbols.Print = (5, omega arith, refl)
symbol_kind symbols.Sync = (6, omega arith, refl)
symbol_kind symbols.If = (7, omega arith, refl)
symbol_kind symbols.Else = (8, omega arith, refl)
symbol_kind symbols.Loop = (9, omega arith, refl)
symbol_kind symbols.Forever = (10, omega arith, refl)
symbol_kind symbols.End = (11, omega arith, refl)
symbol_kind symbols.Spawn = (12, omega arith, refl)
symbol_kind symbols.Send = (13, omega arith, refl)
symbol_kind symbols.Recv = (14, omega arith, refl)
symbol_kind symbols.Always = (15, omega arith, refl)
symbol_kind symbols.Never = (16, omega arith, refl)
symbol_kind symbols.Cancelled = (17, omega arith, refl)
symbol_kind symbols.Joined = (18, omega arith, refl)
symbol_kind symbols.Choose = (19, omega arith, refl)
symbol_kind symbols.Wrap = (20, omega arith, refl)
symbol_kind symbols.Guard = (21, omega arith, refl)
symbol_kind symbols.Nack = (22, omega arith, refl)
symbol_kind symbols.As = (23, omega arith, refl)
symbol_kind symbols.To = (24, omega arith, refl)
symbol_kind symbols.Semicolon = (25, omega arith, refl)
symbol_kind symbols.Comma = (26, omega arith, refl)
symbol_kind symbols.OpenBrace = (27, omega arith, refl)
symbol_kind symbols.CloseBrace = (28, omega arith, refl)
symbol_kind symbols.OpenParen = (29, omega arith, refl)
symbol_kind symbols.CloseParen = (30, omega arith, refl)
symbol_kind symbols.OpenBracket = (31, omega arith, refl)
symbol_kind symbols.CloseBracket = (32, omega arith, refl)
symbol_kind symbols.Equal = (33, omega arith, refl)
symbol_kind symbols.Less = (34, omega arith, refl)
symbol_kind symbols.Plus = (35, omega arith, refl)
symbol_kind symbols.Minus = (36, omega arith, refl)
symbol_kind symbols.Arrow = (37, omega arith, refl)

pub every_kind : (kind : Kind) → Contains KINDS kind
every_kind kinds.Name = (0, omega arith, refl)
every_kind kinds.Number = (1, omega arith, refl)
every_kind (kinds.Symbol symbol) = symbol_kind symbol
every_kind kinds.End = (38, omega arith, refl)

-- of the kinds that were tried these may stand behind the tokens
pub record AreTold (kinds tried : List Kind) (before : List Token) : Type 0 where
  pub may : (kind : Kind) → Contains kinds kind → MayStand kind before
  pub all : (kind : Kind) → Contains tried kind → MayStand kind before → Contains kinds kind

pub none_told : (before : List Token) → AreTold [] [] before
none_told before = record { may = λ kind there. absurd (omega (arith, there.1)); all = λ kind there. absurd (omega (arith, there.1)) }

only : (kind other : Kind) → Contains (kind ∷ []) other → kind ≡ other
only kind other (zero, lt, is) = is
only kind other (suc n, lt, is) = absurd (omega (arith, lt))

pub one_more : (kinds tried : List Kind) (kind : Kind) (before : List Token) → AreTold kinds tried before → MayStand kind before → AreTold (kinds ++ kind ∷ []) (tried ++ kind ∷ []) before
one_more kinds tried kind before told stands = record {
  may = λ other there. ⊎_elim (λ old. told.may other old) (λ new. subst (λ (k : Kind). MayStand k before) (only kind other new) stands) (Contains-append_cases kinds (kind ∷ []) other there);
  all = λ other there may. ⊎_elim (λ old. Contains-append_left kinds (kind ∷ []) other (told.all other old may)) (λ new. subst (λ (k : Kind). Contains (kinds ++ kind ∷ []) k) (only kind other new) (Contains-push kinds kind)) (Contains-append_cases tried (kind ∷ []) other there);
}

pub none_more : (kinds tried : List Kind) (kind : Kind) (before : List Token) → AreTold kinds tried before → (MayStand kind before → ⊥) → AreTold kinds (tried ++ kind ∷ []) before
none_more kinds tried kind before told never = record {
  may = told.may;
  all = λ other there may. ⊎_elim (λ old. told.all other old may) (λ new. absurd (never (subst (λ (k : Kind). MayStand k before) (sym (only kind other new)) may))) (Contains-append_cases tried (kind ∷ []) other there);
}

pub all_told : (kinds : List Kind) (before : List Token) → AreTold kinds KINDS before → AreExpected kinds before
all_told kinds before told = record { may = told.may; all = λ kind may. told.all kind (every_kind kind) may }
