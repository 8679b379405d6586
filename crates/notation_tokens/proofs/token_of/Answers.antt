-- `notation_tokens::token_of` meets its contract: each arm is one kind of byte.
use Rattle.std.proofs.Common.{arith, sym}
use Rattle.notation_tokens.specs.TokenLaws.{token_blank, token_opening, token_closing, token_minus}
use Rattle.notation_tokens.specs.TokenLaws.{token_low, token_high, token_digit}
use Rattle.notation_tokens.proofs.token_of.Goals as goal

pub returns-in-32 : goal.returns-in-32
returns-in-32 c = sym (token_blank _ c.in-32.is)

pub returns-in-40 : goal.returns-in-40
returns-in-40 c = sym (token_opening _ c.in-40.is)

pub returns-in-41 : goal.returns-in-41
returns-in-41 c = sym (token_closing _ c.in-41.is)

pub returns-in-45 : goal.returns-in-45
returns-in-45 c = sym (token_minus _ c.in-45.is)

pub returns-in-48-to-57 : goal.returns-in-48-to-57
returns-in-48-to-57 c = sym (token_digit _ (omega arith) (omega arith))

pub returns-in_default : goal.returns-in_default
returns-in_default c =
    sym (token_low _ (λ e. omega arith) (λ e. omega arith) (λ e. omega arith) (λ e. omega arith) (omega arith))

pub returns-in_default-2 : goal.returns-in_default-2
returns-in_default-2 c = sym (token_high _ (omega arith))
