mod Escaping
