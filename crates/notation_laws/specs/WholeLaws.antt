-- A text that lines 13 and 14 let pass: what the call takes it to say is a reading of it, nested at most 8 deep.
use Rattle.std.specs.Prelude.{ℕ, ◌≡◌, List, []}
use Rattle.std.proofs.Common.{ap, subst, sym}
use Rattle.std.proofs.Math.Option.{none}
use Rattle.spec.specs.Notation.{Items, Text, tokens}
use Rattle.spec.specs.Scanner.{said}
use Rattle.spec.specs.WriteOut.{items_of, text_line, nesting_line}
use Rattle.notation_laws.specs.Here.{Here}
use Rattle.notation_laws.specs.FollowLaws.{text_says}
use Rattle.notation_laws.specs.MendLaws.{text_exact}
use Rattle.notation_laws.specs.NestingLaws.{shallow}

pub items_taken : (s : List ℕ) (t : Items) → Text s t → items_of s ≡ t
items_taken s t p = ap said (text_says s p)

module _ (s : List ℕ) (e : text_line s ≡ none) where
  pub items_text : Text s (items_of s)
  items_text =
      let (t, p) = (text_exact s).0 e in
      subst (Text s) (sym (items_taken s t p)) p

  -- as a sequence that stands at the text's start
  abbrev pub whole : nesting_line s ≡ none → Here (tokens s) 8
  whole n = record {
    rest = [];
    says = items_of s;
    reads = items_text;
    ended = tt;
    shallow = shallow s (items_of s) items_text n;
  }
