-- Laws of products: two words appended one behind the other are their product, whose normal form can be written.
use Rattle.std.specs.Prelude.{ℕ, ◌+◌, ◌≤◌, ◌≡◌, List, ◌++◌, length, take}
use Rattle.std.proofs.Common.{◌∙◌, ap, arith, length-append}
use Rattle.spec.specs.Catalogue.{commands}
use Rattle.spec_laws.specs.PlanLaws.{passing_append}
use Rattle.array_row.specs.Area.{StartsWith}
use Rattle.spec.specs.Letters.{normal_form}
use Rattle.spec_laws.specs.LettersLaws.{letters-length}
use Rattle.long_reduction.specs.Reducing.{Given}
use Rattle.long_form.specs.Forming.{Formable}
use Rattle.array_row.specs.Row.{Appended}
use Rattle.array_row.specs.RowLaws.{appended_length, appended_take}
use Rattle.long_product.specs.Product.{Concatenated, Factors}

-- two words appended, the second behind the first
pub appended_concatenated : {row₀ row₁ row₂ first second : List ℕ} {middle end : ℕ} → Appended row₀ 0 first row₁ middle
    → Appended row₁ middle second row₂ end → length first + length second ≤ length row₀
    → Concatenated first second row₂ end
appended_concatenated {row₀} {row₁} {second = second} a b h =
    let l : length row₁ ≡ length row₀ = appended_length a (omega (arith, a.ends)) in
    record {
      ends = omega (arith, a.ends, b.ends);
      begins = appended_take b (omega (arith, a.ends, b.ends))
          ∙ ap (λ (x : List ℕ). x ++ second) (appended_take a (omega (arith, a.ends)));
    }

module _ {first second row : List ℕ} {end : ℕ} (j : Concatenated first second row end) {c : List ℕ}
    {conflicts : List (List ℕ)} {area : List ℕ} (f : Factors c conflicts first second area) where
  pub product_given : Given c conflicts (take end row)
  product_given = rw j.begins (record {
    table = f.table;
    few = f.few;
    passing = passing_append (commands c) first second f.left f.right;
    short = omega (arith, length-append first second, f.short);
  })

  pub product_formable : Formable 50176 c conflicts (take end row) area
  product_formable = record {
    given = product_given;
    short = product_given.short;
    fits = rw j.begins (omega (
      arith,
      letters-length (first ++ second),
      length-append first second,
      f.fits,
    ));
  }

pub product_written : (c : List ℕ) {first second row before after : List ℕ} {end r : ℕ}
    → Concatenated first second row end → StartsWith (normal_form c (take end row)) before after r
    → StartsWith (normal_form c (first ++ second)) before after r
product_written c j w = rw j.begins at w
