-- The goals of `long_product::product_in` that the check leaves.
use Rattle.long_product.specs.ProductLaws.{product_given, product_formable, product_written}
use Rattle.long_product.proofs.product_in.Goals as goal

pub form-requires : goal.form-requires
form-requires g c =
    let (k, f) = c.requires.factors in
    (k, product_formable c.concatenate-end.ensures f)

pub returns : goal.returns
returns g c =
    let j = c.concatenate-end.ensures in
    λ k f. product_written k j (c.form.ensures k (product_given j f))
