-- The word in the row can be put in normal form, which is the lead-in. Assumes nothing.
use Rattle.conjugacy_by_cores.specs.JoinLaws.{word_stop, word_joined, word_fits, word_given, word_formable}
use Rattle.conjugacy_by_cores.specs.JoinLaws.{word_outcome}
use Rattle.conjugacy_by_cores.proofs.lead_in_form.Goals as goal

pub lead_in_word-way-requires : goal.lead_in_word-way-requires
lead_in_word-way-requires c =
    let (k, v, w, p) = c.requires in
    (k, v, w, p.cores, p.word)

pub returns-in_default : goal.returns-in_default
returns-in_default c =
    let a = c.lead_in_word-way in
    λ k v w p.
    word_stop k v w a.new.row _ (a.ensures k v w p.cores p.word) c.in_default.is

pub slice_bounds-form-end : goal.slice_bounds-form-end
slice_bounds-form-end c =
    let (k, v, w, p) = c.requires in
    let word = word_joined k v w _ (c.lead_in_word-way.ensures k v w p.cores p.word) c.in-Some.is in
    word_fits p.cores.plans word.0

pub slice_bounds-form-end-2 : goal.slice_bounds-form-end-2
slice_bounds-form-end-2 c =
    let (k, v, w, p) = c.requires in
    let word = word_joined k v w _ (c.lead_in_word-way.ensures k v w p.cores p.word) c.in-Some.is in
    word.0.count

pub form-length-requires : goal.form-length-requires
form-length-requires c =
    let (k, v, w, p) = c.requires in
    let word = word_joined k v w _ (c.lead_in_word-way.ensures k v w p.cores p.word) c.in-Some.is in
    (k, word_formable p.cores.plans word.0 p.form)

pub returns : goal.returns
returns c =
    λ k v w p.
    let (d, m) = word_joined k v w _ (c.lead_in_word-way.ensures k v w p.cores p.word) c.in-Some.is in
    word_outcome p.cores.plans d (c.form-length.ensures k (word_given p.cores.plans d)) m
