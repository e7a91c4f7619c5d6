use Rattle.sf_script_print.proofs.call_text.push_call_text.Goals as goal

pub returns-in-WriteAppend : goal.returns-in-WriteAppend
returns-in-WriteAppend c =
    rw (c.in-WriteAppend.is, ← c.as_bytes-in-WriteAppend.ensures.text, ← c.as_bytes-in-WriteAppend-2.ensures) c.push_with_payload-in-WriteAppend.ensures

pub returns-in-FragInsert : goal.returns-in-FragInsert
returns-in-FragInsert c =
    rw (c.in-FragInsert.is, ← c.as_bytes-in-FragInsert.ensures.text, ← c.as_bytes-in-FragInsert-2.ensures) c.push_with_payload-in-FragInsert.ensures

pub returns-in-FragReplace : goal.returns-in-FragReplace
returns-in-FragReplace c =
    rw (c.in-FragReplace.is, ← c.as_bytes-in-FragReplace.ensures.text, ← c.as_bytes-in-FragReplace-2.ensures) c.push_with_payload-in-FragReplace.ensures
