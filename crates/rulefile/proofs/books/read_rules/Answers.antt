use Rattle.std.proofs.Common.{◌≡◌, Some, None, Ok, Err, refl, ap, ◌∙◌, rules}
use Rattle.std.proofs.lemmas.Result.{err_from_is_err_and}
use Rattle.rules.specs.ClauseFilling as C
use Rattle.rules.specs.GroupFilling as G
use Rattle.rulefile.specs.declared.form.Start.TheVariants as S
use Rattle.rulefile.specs.Ahead.{ahead}
use Rattle.rulefile.specs.Form.{start_next}
use Rattle.rulefile.specs.Outcomes.{books, filled}
use Rattle.rulefile.proofs.FillingLaws.{started, rules_started, clause_left, clause_step, clause_on, group_step, group_on}
use Rattle.rulefile.proofs.books.read_rules.Goals as goal

pub returns-in_err-start-clause-read : goal.returns-in_err-start-clause-read
returns-in_err-start-clause-read c =
    let p = err_from_is_err_and c.from_residual.result c.from_residual.ensures.1 in
    let n = c.loop-start.left in
    c.loop-start.invariant.read ∙ ap (filled (books c.loop-start.clauses c.loop-start.groups)) (rules_started n (ahead c.loop-start.reader) ∙ ap (started n) c.in_err-start.ensures)
    ∙ (rw (p.1, p.2) refl)

pub returns-clause-read : goal.returns-clause-read
returns-clause-read c =
    let n = c.loop-start.left in
    let starts : start_next n (ahead c.loop-start.reader) ≡ Ok (None, ahead c.next_start.new.reader) = search rules in
    c.loop-start.invariant.read ∙ ap (filled (books c.loop-start.clauses c.loop-start.groups)) (rules_started n (ahead c.loop-start.reader) ∙ ap (started n) starts)

-- a clause

pub overflow_sub-left : goal.overflow_sub-left
overflow_sub-left c =
    let n = c.loop-start.left in
    let ts = ahead c.loop-start.reader in
    let starts : start_next n ts ≡ Ok (Some (S.Clause c.in-Clause.first), ahead c.next_start.new.reader) = search rules in
    clause_left (books c.loop-start.clauses c.loop-start.groups) n ts _ _ starts

pub loop-start-smaller-in-Continue-branch-3 : goal.loop-start-smaller-in-Continue-branch-3
loop-start-smaller-in-Continue-branch-3 c =
    let n = c.loop-start.left in
    let ts = ahead c.loop-start.reader in
    let starts : start_next n ts ≡ Ok (Some (S.Clause c.in-Clause.first), ahead c.next_start.new.reader) = search rules in
    (clause_on (books c.loop-start.clauses c.loop-start.groups) n ts _ _ starts _ _ c.in_ok-read_clause-in-Clause.ensures.read).0

pub loop-start-preserved-in-Continue-branch-3 : goal.loop-start-preserved-in-Continue-branch-3
loop-start-preserved-in-Continue-branch-3 c =
    let b = books c.loop-start.clauses c.loop-start.groups in
    let n = c.loop-start.left in
    let ts = ahead c.loop-start.reader in
    let starts : start_next n ts ≡ Ok (Some (S.Clause c.in-Clause.first), ahead c.next_start.new.reader) = search rules in
    let e = c.in_ok-read_clause-in-Clause.ensures in
    let d = C.filling c.read_clause.new.book in
    record {
      clauses = (clause_on b n ts _ _ starts d _ e.read).1;
      groups = c.loop-start.invariant.groups;
      read = c.loop-start.invariant.read ∙ clause_step b n ts _ _ starts (Ok tt) d _ e.read;
      sized = record { clauses = e.sized ∙ c.loop-start.invariant.sized.clauses; groups = c.loop-start.invariant.sized.groups };
    }

pub returns-in_err-read_clause-in-Clause-clause-read : goal.returns-in_err-read_clause-in-Clause-clause-read
returns-in_err-read_clause-in-Clause-clause-read c =
    let p = err_from_is_err_and c.from_residual-in_err-read_clause-in-Clause.result c.from_residual-in_err-read_clause-in-Clause.ensures.1 in
    let n = c.loop-start.left in
    let ts = ahead c.loop-start.reader in
    let starts : start_next n ts ≡ Ok (Some (S.Clause c.in-Clause.first), ahead c.next_start.new.reader) = search rules in
    c.loop-start.invariant.read
    ∙ clause_step (books c.loop-start.clauses c.loop-start.groups) n ts _ _ starts (Err c.in_err-read_clause-in-Clause.field-0.0) (C.filling c.read_clause.new.book) (ahead c.read_clause.new.reader) c.in_err-read_clause-in-Clause.ensures.read
    ∙ (rw (p.1, p.2) refl)

-- a group

pub loop-start-smaller : goal.loop-start-smaller
loop-start-smaller c =
    let n = c.loop-start.left in
    let ts = ahead c.loop-start.reader in
    let starts : start_next n ts ≡ Ok (Some (S.Group c.in-Group.at), ahead c.next_start.new.reader) = search rules in
    (group_on (books c.loop-start.clauses c.loop-start.groups) n ts _ _ starts _ _ c.in_ok-read_group-in-Group.ensures.read).0

pub loop-start-preserved : goal.loop-start-preserved
loop-start-preserved c =
    let b = books c.loop-start.clauses c.loop-start.groups in
    let n = c.loop-start.left in
    let ts = ahead c.loop-start.reader in
    let starts : start_next n ts ≡ Ok (Some (S.Group c.in-Group.at), ahead c.next_start.new.reader) = search rules in
    let e = c.in_ok-read_group-in-Group.ensures in
    let g = G.filling c.read_group.new.book in
    record {
      clauses = c.loop-start.invariant.clauses;
      groups = (group_on b n ts _ _ starts g _ e.read).1;
      read = c.loop-start.invariant.read ∙ group_step b n ts _ _ starts (Ok tt) g _ e.read;
      sized = record { clauses = c.loop-start.invariant.sized.clauses; groups = e.sized ∙ c.loop-start.invariant.sized.groups };
    }

pub returns-in_err-read_group-in-Group-clause-read : goal.returns-in_err-read_group-in-Group-clause-read
returns-in_err-read_group-in-Group-clause-read c =
    let p = err_from_is_err_and c.from_residual-in_err-read_group-in-Group.result c.from_residual-in_err-read_group-in-Group.ensures.1 in
    let n = c.loop-start.left in
    let ts = ahead c.loop-start.reader in
    let starts : start_next n ts ≡ Ok (Some (S.Group c.in-Group.at), ahead c.next_start.new.reader) = search rules in
    c.loop-start.invariant.read
    ∙ group_step (books c.loop-start.clauses c.loop-start.groups) n ts _ _ starts (Err c.in_err-read_group-in-Group.field-0.0) (G.filling c.read_group.new.book) (ahead c.read_group.new.reader) c.in_err-read_group-in-Group.ensures.read
    ∙ (rw (p.1, p.2) refl)
