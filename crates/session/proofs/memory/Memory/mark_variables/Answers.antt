use Rattle.std.proofs.Common.{◌≡◌, ℕ, ◌+◌, true, ◌||◌, eqb, refl, sym, ap, ◌∙◌, subst, w32, SFits, rules, to_z, of_z, ◌*◌}
use Rattle.std.proofs.lemmas.Int.{to_z-of_z}
use Rattle.std.proofs.lemmas.List.FromFn.{map-range_with_len_more}
use Rattle.rules.specs.Literals.{in_range}
use Rattle.session.specs.Words.{word_at, words_from, index_of}
use Rattle.session.specs.Decode.{marked_index}
use Rattle.session.specs.Analysis.{names_index}
use Rattle.session.proofs.Words.{all_words}
use Rattle.session.proofs.Counting.{names_push}
use Rattle.session.proofs.Planning.{framed_next}
use Rattle.session.proofs.Rooting.{apart_word, mark_more}
use Rattle.session.proofs.memory.Memory.mark_variables.Goals as goal

pub index_of-x-requires : goal.index_of-x-requires
index_of-x-requires c =
    let m = c.args.self.now in
    let n = m.layout.variables in
    let mid = c.loop-i.self in
    let f = c.loop-i.invariant.frame in
    let i = c.loop-i.i in
    let h = c.loop-i-test.true in
    let l = word_at mid.words.now (c.args.base + i) in
    let fits : SFits w32 l = search rules in
    let same = to_z-of_z w32 l fits ∙ apart_word n c.args.base c.args.k m.words.now mid.words.now c.requires.apart f.outside i h in
    subst (λ y. in_range y.variables (to_z w32 (of_z w32 l)) ≡ true) (sym f.layout)
    (subst (λ v. in_range n v ≡ true) (sym same) (all_words (λ v. in_range n v ≡ true) m.words.now c.args.base c.args.k c.requires.ranged i h))

pub loop-i-preserved : goal.loop-i-preserved
loop-i-preserved c =
    let m = c.args.self.now in
    let n = m.layout.variables in
    let ws = m.words.now in
    let mid = c.loop-i.self in
    let now = c.set_mark.new.self in
    let f = c.loop-i.invariant.frame in
    let base = c.args.base in
    let i = c.loop-i.i in
    let l = word_at mid.words.now (base + i) in
    let fits : SFits w32 l = search rules in
    let y = c.index_of-x.result in
    let is = c.index_of-x.ensures.is ∙ ap index_of (to_z-of_z w32 l fits ∙ apart_word n base c.args.k ws mid.words.now c.requires.apart f.outside i c.loop-i-test.true) in
    let more : (x : ℕ) → marked_index n now.words.now x ≡ (marked_index n mid.words.now x || eqb x y)
    = subst (λ z. (x : ℕ) → marked_index z.variables now.words.now x ≡ (marked_index z.variables mid.words.now x || eqb x y)) f.layout (mark_more mid.layout.variables y mid.words.now now.words.now c.set_mark.ensures.wrote) in
    record {
      marked = λ x. names_push (marked_index n ws) (marked_index n mid.words.now) (marked_index n now.words.now) (words_from ws base i) (word_at ws (base + i)) y is c.loop-i.invariant.marked more x
          ∙ ap (λ C. marked_index n ws x || names_index C x) (sym (map-range_with_len_more (word_at ws) base i (base + i) refl));
      frame = framed_next (λ k. 5 * k) (λ k. k) m mid now f c.set_mark.ensures.frame;
    }
