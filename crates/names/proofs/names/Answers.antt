use Rattle.std.proofs.Common.{refl, rules}
use Rattle.names.specs.Names.{name_of, field_name, naming_among, namings, naming, nth_text, ascii}
use Rattle.rules.proofs.Laws.Apart.{Apart, all_bytes}
use Rattle.names.proofs.Table.{no_row}
use Rattle.names.proofs.names.Goals as goal

pub returns-in-1 : goal.returns-in-1
unfolding name_of field_name naming_among namings naming nth_text ascii
returns-in-1 c = rw c.in-1.is (refl, refl)

pub returns-in-2 : goal.returns-in-2
unfolding name_of field_name naming_among namings naming nth_text ascii
returns-in-2 c = rw c.in-2.is (refl, refl)

pub returns-in-3 : goal.returns-in-3
unfolding name_of field_name naming_among namings naming nth_text ascii
returns-in-3 c = rw c.in-3.is (refl, refl)

pub returns-in-4 : goal.returns-in-4
unfolding name_of field_name naming_among namings naming nth_text ascii
returns-in-4 c = rw c.in-4.is (refl, refl)

pub returns-in-5 : goal.returns-in-5
unfolding name_of field_name naming_among namings naming nth_text ascii
returns-in-5 c = rw c.in-5.is (refl, refl)

pub returns-in-16 : goal.returns-in-16
unfolding name_of field_name naming_among namings naming nth_text ascii
returns-in-16 c = rw c.in-16.is (refl, refl)

pub returns-in-17 : goal.returns-in-17
unfolding name_of field_name naming_among namings naming nth_text ascii
returns-in-17 c = rw c.in-17.is (refl, refl)

pub returns-in-18 : goal.returns-in-18
unfolding name_of field_name naming_among namings naming nth_text ascii
returns-in-18 c = rw c.in-18.is (refl, refl)

pub returns-in-19 : goal.returns-in-19
unfolding name_of field_name naming_among namings naming nth_text ascii
returns-in-19 c = rw c.in-19.is (refl, refl)

pub returns-in-20 : goal.returns-in-20
unfolding name_of field_name naming_among namings naming nth_text ascii
returns-in-20 c = rw c.in-20.is (refl, refl)

pub returns-in-21 : goal.returns-in-21
unfolding name_of field_name naming_among namings naming nth_text ascii
returns-in-21 c = rw c.in-21.is (refl, refl)

pub returns-in-22 : goal.returns-in-22
unfolding name_of field_name naming_among namings naming nth_text ascii
returns-in-22 c = rw c.in-22.is (refl, refl)

pub returns-in-23 : goal.returns-in-23
unfolding name_of field_name naming_among namings naming nth_text ascii
returns-in-23 c = rw c.in-23.is (refl, refl)

pub returns-in-24 : goal.returns-in-24
unfolding name_of field_name naming_among namings naming nth_text ascii
returns-in-24 c = rw c.in-24.is (refl, refl)

pub returns-in-25 : goal.returns-in-25
unfolding name_of field_name naming_among namings naming nth_text ascii
returns-in-25 c = rw c.in-25.is (refl, refl)

pub returns-in-26 : goal.returns-in-26
unfolding name_of field_name naming_among namings naming nth_text ascii
returns-in-26 c = rw c.in-26.is (refl, refl)

pub returns-in_default : goal.returns-in_default
unfolding name_of field_name naming nth_text ascii
returns-in_default c =
    let apart : Apart Unit c.args.byte all_bytes = unfold Apart in search rules in
    rw (no_row Unit c.args.byte apart) (refl, refl)
