-- What each case of a token says.
use Rattle.notation_tokens.specs.declared.Token.{Token}
use Rattle.notation_tokens.specs.declared.Token.TheVariants.{Blank, Opening, Closing, Minus, Digit, Other}
use Rattle.spec.specs.Notation as notation

abbrev pub told_token : Token → notation.Token
told_token Blank = notation.blank
told_token Opening = notation.opening
told_token Closing = notation.closing
told_token Minus = notation.minus
told_token (Digit d) = notation.digit d
told_token Other = notation.other
